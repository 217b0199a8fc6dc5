use Rattle.s39_cli.proofs.Works.{no_cause}
use Rattle.s39_cli.proofs.laws.ready_jobs_have_no_cause.Goals as goal

pub returns : goal.returns
returns c = no_cause
