use Rattle.s39_cli.proofs.CreatedBackups as created
use Rattle.s39_cli.proofs.laws.drill_jobs_list.Goals as goal

pub returns : goal.returns
returns c = created.drill_jobs_list c.created_backups_drill.ensures
