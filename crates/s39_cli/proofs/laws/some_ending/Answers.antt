use Rattle.s39_cli.proofs.OneEnding as ending
use Rattle.s39_cli.proofs.laws.some_ending.Goals as goal

pub returns : goal.returns
returns c = ending.some_ending
