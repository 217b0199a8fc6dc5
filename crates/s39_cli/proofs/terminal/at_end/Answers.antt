use Rattle.std.proofs.Common.{[], inr}
use Rattle.std.proofs.KnownBytes.{Consumes-nil}
use Rattle.s39_cli.proofs.terminal.at_end.Goals as goal

pub returns-then-not-waits-clause-further : goal.returns-then-not-waits-clause-further
returns-then-not-waits-clause-further g c = ([], Consumes-nil (g.R.Read.remaining c.args.input.input))

pub returns-clause-said : goal.returns-clause-said
returns-clause-said g c = inr c.say.ensures.said
