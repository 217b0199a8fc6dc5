use Rattle.s39_cli.proofs.CreatedBackups as created
use Rattle.s39_cli.proofs.laws.recover_jobs_recover.Goals as goal

pub returns : goal.returns
returns c = created.recover_jobs_recover c.created_backups_recover.ensures
