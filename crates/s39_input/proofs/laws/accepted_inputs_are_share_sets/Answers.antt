use Rattle.s39_input.proofs.Sets.Collected.{accepted}
use Rattle.s39_input.proofs.laws.accepted_inputs_are_share_sets.Goals as goal

pub returns : goal.returns
returns c = λ input set read. (accepted input set read).0
