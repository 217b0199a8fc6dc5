use Rattle.s39_reading.proofs.Lengths.Statuses.{set_status_short}
use Rattle.s39_reading.proofs.length_laws.statuses_of_sets_are_short.Goals as goal

pub returns : goal.returns
returns c = set_status_short
