use Rattle.s39_clap.proofs.Agreement.{one_request_or_mistakes}
use Rattle.s39_clap.proofs.laws.faults_are_one_request_or_mistakes.Goals as goal

pub returns : goal.returns
returns c = one_request_or_mistakes
