use Rattle.s39_backup.proofs.EveryReading.{reading_exists}
use Rattle.s39_backup.proofs.laws.every_text_has_a_plan_reading.Goals as goal

pub returns : goal.returns
returns c = reading_exists
