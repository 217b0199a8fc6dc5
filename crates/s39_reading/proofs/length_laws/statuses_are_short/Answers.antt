use Rattle.s39_reading.proofs.Lengths.Statuses.{status_short}
use Rattle.s39_reading.proofs.length_laws.statuses_are_short.Goals as goal

pub returns : goal.returns
returns c = status_short c.accepted_inputs_are_share_sets.ensures
