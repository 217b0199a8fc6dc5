use Rattle.s39_drilling.proofs.Drills.OneCreated.{drills_once}
use Rattle.s39_drilling.proofs.round_trips.one_output_of_a_backup.Goals as goal

pub returns : goal.returns
returns c = record { drill = drills_once c.one_set.ensures c.one_lack.ensures.one c.one_listing.ensures.once }
