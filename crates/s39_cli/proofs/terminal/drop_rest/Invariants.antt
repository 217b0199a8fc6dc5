use Rattle.s39_cli.specs.Terminal.{ConsumesMore}
use Rattle.s39_cli.proofs.terminal.drop_rest.Given as goal

abbrev pub invariant-loop : goal.invariant-loop
invariant-loop g l = ConsumesMore (g.R.Read.remaining l.fn.input.input) (g.R.Read.remaining l.input.input)
