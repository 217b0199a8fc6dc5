use Rattle.s39_input.proofs.Runs.Devices.{of_unread}
use Rattle.s39_reading.proofs.laws.unread_inputs_decide_nothing.Goals as goal

pub returns : goal.returns
returns g c = record {
  recover = λ form expected passphrase reader read_to writer written_to answer runs. of_unread g.R.Read.remaining reader read_to _ runs.output;
}
