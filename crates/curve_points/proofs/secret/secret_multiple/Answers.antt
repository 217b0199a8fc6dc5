use Rattle.std.proofs.Common.{◌≡◌, ◌<◌, ◌^◌, arith, sym, refl}
use Rattle.curve_field.specs.Limbs.{value}
use Rattle.curve_points.specs.declared.point.Point.TheVariants.{Finite}
use Rattle.curve_points.specs.Multiples.{multiple}
use Rattle.curve_points.proofs.Multiples.{rest_more, multiple_more, whole}
use Rattle.curve_points.proofs.secret.secret_multiple.Goals as goal

pub loop-n-init : goal.loop-n-init
unfolding multiple
loop-n-init c = record { rest = omega arith; total = c.infinity-total.ensures }

pub loop-n-preserved : goal.loop-n-preserved
loop-n-preserved c =
    let k = c.args.scalar in
    let n = c.loop-n.n in
    let before = c.loop-n.invariant in
    let shifted = value c.sum-bit.result.0 in
    let small : shifted < 2 ^ 256 = omega arith in
    record {
      rest = rest_more k n _ shifted _ before.rest c.sum-bit.ensures.sum small;
      total =
          rw (sym (multiple_more k n _ shifted _ (Finite c.args.point.now) _ before.rest c.sum-bit.ensures.sum small refl))
          (c.next-total.ensures _ before.total);
    }

pub returns : goal.returns
returns c =
    let end : c.loop-n.n ≡ 256 = omega arith in
    whole c.args.scalar c.loop-n.n (Finite c.args.point.now) _ end (c.point.ensures _ c.loop-n.invariant.total)

pub next-total-requires-clause-twice : goal.next-total-requires-clause-twice
next-total-requires-clause-twice c = c.double-twice.ensures (Finite c.args.point.now) c.of.ensures
