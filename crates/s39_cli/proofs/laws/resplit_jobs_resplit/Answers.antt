use Rattle.s39_cli.proofs.CreatedBackups as created
use Rattle.s39_cli.proofs.laws.resplit_jobs_resplit.Goals as goal

pub returns : goal.returns
returns c = created.resplit_jobs_resplit c.created_backups_are_split_anew.ensures
