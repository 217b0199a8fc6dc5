use Rattle.std.proofs.Common.{arith}
use Rattle.s39_repair.proofs.Polynomials.{next_value}
use Rattle.s39_repair.proofs.solving.value_at.Goals as goal

pub loop-i-preserved : goal.loop-i-preserved
loop-i-preserved c = record {
  within = omega arith;
  so_far =
      next_value c.args.coefficients.now c.loop-i.i c.args.x c.loop-i.value c.mul.result c.element.result c.add-value.result c.loop-i-test.true
      c.loop-i.invariant.within c.requires c.loop-i.invariant.so_far c.mul.ensures.product c.element.ensures c.add-value.ensures.sum;
}
