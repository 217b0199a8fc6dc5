use Rattle.s39_backup.proofs.Reissued.{set_of_plan, right}
use Rattle.s39_backup.proofs.laws.backups_reissue_their_shares.Goals as goal

pub returns-clause-of_plan : goal.returns-clause-of_plan
returns-clause-of_plan c = λ set passphrase secret is backup. set_of_plan set is passphrase secret backup

pub returns-clause-right : goal.returns-clause-right
returns-clause-right c = λ set passphrase secret name result is backup.
    right set is passphrase secret backup c.any_shares_combine.ensures c.any_points_complete.ensures c.shares_are_points.ensures name result
