use Rattle.std.proofs.Common.{refl}
use Rattle.s39_cli.proofs.terminal.with_rest_dropped.Goals as goal

pub returns-in-With-clause-alike : goal.returns-in-With-clause-alike
returns-in-With-clause-alike g c = rw c.in-With.is (c.at_end.result, refl, c.at_end.ensures.further)
