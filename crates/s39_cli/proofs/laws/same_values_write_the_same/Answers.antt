use Rattle.s39_cli.proofs.SameValues as values
use Rattle.s39_cli.proofs.laws.same_values_write_the_same.Goals as goal

pub returns : goal.returns
returns c = values.same_values_write_the_same
