use Rattle.std.proofs.Common.{◌≡◌, ◌<◌, ℕ, false, nat_eq, get_or}
use Rattle.base58.specs.Base58.{letters}
use Rattle.base58.proofs.reading.digit_of.Given as goal

abbrev pub invariant-loop-digit : goal.invariant-loop-digit
invariant-loop-digit l = (k : ℕ) → k < l.digit → nat_eq (get_or letters k 0) l.character ≡ false
