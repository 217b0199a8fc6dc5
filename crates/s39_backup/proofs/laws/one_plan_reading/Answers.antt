use Rattle.s39_backup.proofs.PlanReadings.{reading_once}
use Rattle.s39_backup.proofs.laws.one_plan_reading.Goals as goal

pub returns : goal.returns
returns c = reading_once
