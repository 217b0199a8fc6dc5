use Rattle.std.proofs.Common.{◌≡◌}
use Rattle.s39_clearing.proofs.stack.zero_words.Given as goal

abbrev pub invariant-loop-word : goal.invariant-loop-word
invariant-loop-word g l = l.sum ≡ 0
