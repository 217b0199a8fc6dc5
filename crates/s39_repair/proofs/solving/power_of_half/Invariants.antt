use Rattle.std.proofs.Common.{◌≡◌}
use Rattle.s39_field.specs.FieldProduct.{word_field}
use Rattle.s39_field.specs.Polynomial.{power}
use Rattle.s39_repair.specs.Sums.{half}
use Rattle.s39_repair.proofs.solving.power_of_half.Given as goal

abbrev pub invariant-loop-i : goal.invariant-loop-i
invariant-loop-i l = l.power ≡ power word_field half l._i
