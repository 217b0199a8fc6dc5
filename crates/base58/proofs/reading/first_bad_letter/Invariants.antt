use Rattle.std.proofs.Common.{◌≡◌, ◌<◌, ℕ, false, nat_le, get_or}
use Rattle.base58.specs.Base58.{digit_of}
use Rattle.base58.proofs.reading.first_bad_letter.Given as goal

abbrev pub invariant-loop-i : goal.invariant-loop-i
invariant-loop-i l = (k : ℕ) → k < l.i → nat_le 58 (digit_of (get_or l.text k 0)) ≡ false
