use Rattle.s39_cli.proofs.CreatedBackups as created
use Rattle.s39_cli.proofs.laws.reissue_jobs_reissue.Goals as goal

pub returns : goal.returns
returns c = created.reissue_jobs_reissue c.created_backups_reissue.ensures
