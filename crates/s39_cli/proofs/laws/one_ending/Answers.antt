use Rattle.s39_cli.proofs.OneEnding as ending
use Rattle.s39_cli.proofs.laws.one_ending.Goals as goal

pub returns : goal.returns
returns g c = λ remaining contents. ending.one_ending remaining contents c.one_outcome.ensures
