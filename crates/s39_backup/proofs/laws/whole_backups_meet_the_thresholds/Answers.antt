use Rattle.s39_backup.proofs.WholeBackups.{whole_backup_meets}
use Rattle.s39_backup.proofs.laws.whole_backups_meet_the_thresholds.Goals as goal

pub returns : goal.returns
returns c = whole_backup_meets
