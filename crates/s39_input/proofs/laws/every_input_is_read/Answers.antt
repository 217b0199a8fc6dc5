use Rattle.s39_input.proofs.Sets.Collected.{some_read}
use Rattle.s39_input.proofs.laws.every_input_is_read.Goals as goal

pub returns : goal.returns
returns c = some_read
