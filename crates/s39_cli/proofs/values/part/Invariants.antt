use Rattle.s39_cli.specs.Values.{IsBegunPart}
use Rattle.s39_cli.proofs.values.part.Given as goal

abbrev pub invariant-loop : goal.invariant-loop
invariant-loop g l = IsBegunPart l.until l.counter (g.R.Read.remaining l.fn.input) (g.R.Read.remaining l.input) l.bytes.items
