use Rattle.std.proofs.Common.{replicate}
use Rattle.s39_set.specs.Counting.{AreWays}
use Rattle.s39_set.proofs.counting.choices.Given as goal

abbrev pub invariant-loop : goal.invariant-loop
invariant-loop l = AreWays l.table (replicate l.counter 1)
