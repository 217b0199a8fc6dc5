use Rattle.std.proofs.Common.{◌≡◌, ◌%◌, ◌^◌}
use Rattle.s39_words.specs.Division.{packed, generator_times}
use Rattle.s39_words.proofs.checksum.generator_times.Given as goal

abbrev pub invariant-loop-i : goal.invariant-loop-i
invariant-loop-i l = l.sum ≡ packed (generator_times (l.element % 2 ^ l.i))
