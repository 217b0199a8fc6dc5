use Rattle.std.proofs.Common.{length}
use Rattle.s39_cli.specs.Ending.{IsGoingOut}
use Rattle.s39_cli.proofs.delivery.write_whole.Given as goal

abbrev pub invariant-loop-rest : goal.invariant-loop-rest
invariant-loop-rest g l = IsGoingOut (g.W.Write.contents l.fn.output) (g.W.Write.contents l.output) l.fn.text l.rest

abbrev pub decreases-loop-rest : goal.decreases-loop-rest
decreases-loop-rest g l = length l.rest
