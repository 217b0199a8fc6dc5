use Rattle.std.proofs.Common.{◌≡◌, ◌<◌, ℕ, false, nat_le, get_or}
use Rattle.bech32.specs.Segwit.{group_of}
use Rattle.bech32.proofs.reading.first_bad_letter.Given as goal

abbrev pub invariant-loop-i : goal.invariant-loop-i
invariant-loop-i l = (k : ℕ) → k < l.i → nat_le 32 (group_of (get_or l.letters k 0)) ≡ false
