use Rattle.s39_reading.proofs.Runs.OneCreated.{recovers_once}
use Rattle.s39_reading.proofs.round_trips.one_output_of_a_backup.Goals as goal

pub returns : goal.returns
returns c = record { recover = recovers_once c.one_set.ensures c.one_lack.ensures.one c.one_lack.ensures.none }
