use Rattle.s39_c.proofs.OneAnswer.{backup_once}
use Rattle.s39_c.proofs.laws.one_backup.Goals as goal

pub returns : goal.returns
returns c = backup_once c.one_plan_reading.ensures c.one_create_output.ensures.once
