use Rattle.s39_drilling.proofs.Drills.Complete.{drills_created}
use Rattle.s39_drilling.proofs.laws.created_backups_drill.Goals as goal

pub returns : goal.returns
returns c =
    drills_created c.one_outcome.ensures c.every_quorum_recovers.ensures c.one_checked_set.ensures c.mnemonics_of_a_backup_are_a_set.ensures
