use Rattle.std.proofs.Common.{◌≡◌, ◌∷◌, take}
use Rattle.s39_repair.proofs.solving.coefficients_before.Given as goal

abbrev pub invariant-loop-byte : goal.invariant-loop-byte
invariant-loop-byte l = l.coefficients.items ≡ 1 ∷ take l.byte-index l.string
