use Rattle.std.proofs.Common.{◌≡◌, ◌<◌, ℕ, false, nat_eq, get_or}
use Rattle.bech32.specs.Segwit.{letters}
use Rattle.bech32.proofs.reading.group_of.Given as goal

abbrev pub invariant-loop-group : goal.invariant-loop-group
invariant-loop-group l = (k : ℕ) → k < l.group → nat_eq (get_or letters k 0) l.letter ≡ false
