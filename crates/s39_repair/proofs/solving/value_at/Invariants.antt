use Rattle.std.proofs.Common.{◌≡◌, ◌≤◌, length, drop}
use Rattle.s39_field.specs.FieldProduct.{word_field}
use Rattle.s39_field.specs.Polynomial.{value_at}
use Rattle.s39_repair.proofs.solving.value_at.Given as goal

abbrev pub invariant-loop-i : goal.invariant-loop-i
invariant-loop-i l = record {
  within : l.i ≤ length l.coefficients;
  so_far : l.value ≡ value_at word_field (drop l.i l.coefficients) l.x;
}

abbrev pub decreases-loop-i : goal.decreases-loop-i
decreases-loop-i l = l.i
