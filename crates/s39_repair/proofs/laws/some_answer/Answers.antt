use Rattle.s39_repair.proofs.SomeAnswer.{some_answer}
use Rattle.s39_repair.proofs.laws.some_answer.Goals as goal

pub returns : goal.returns
returns c = some_answer
