use Rattle.std.proofs.Common.{◌≡◌, take, map}
use Rattle.s39_repair.proofs.candidate.first_words.Given as goal

abbrev pub invariant-loop-range : goal.invariant-loop-range
invariant-loop-range l = l.words.items ≡ map (λ r. r.first) (take l.range-index l.ranges)
