use Rattle.s39_backup.proofs.Agreeing.{can_join}
use Rattle.s39_backup.proofs.laws.shares_of_a_backup_agree.Goals as goal

pub returns : goal.returns
returns c set earlier share passphrase secret backup belong among =
    (c.shares_that_agree_join.ensures earlier share).1 (can_join set passphrase secret backup c.shares_of_a_split.ensures.length earlier share belong among)
