use Rattle.s39_backup.proofs.KeptShares.{shares_kept, both_kept}
use Rattle.s39_secrecy.proofs.laws.corresponding_backups_share.Goals as goal

pub returns-clause-share : goal.returns-clause-share
returns-clause-share c asked other names random fitted shares others setting correspond created also =
    both_kept names asked other random fitted setting.two_short.of_plan correspond shares others created also

pub returns-clause-exists : goal.returns-clause-exists
returns-clause-exists c asked other names random fitted shares two_short correspond created =
    shares_kept names asked other random fitted two_short.of_plan correspond shares created
