use Rattle.s39_backup.proofs.Reissues.{reissue_exists}
use Rattle.s39_backup.proofs.laws.every_name_has_a_reissue.Goals as goal

pub returns : goal.returns
returns c = λ set group_threshold groups name is plan. reissue_exists set group_threshold groups name
