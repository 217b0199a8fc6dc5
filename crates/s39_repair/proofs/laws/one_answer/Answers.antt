use Rattle.s39_repair.proofs.OneAnswer.{one_answer}
use Rattle.s39_repair.proofs.laws.one_answer.Goals as goal

pub returns : goal.returns
returns c = one_answer
