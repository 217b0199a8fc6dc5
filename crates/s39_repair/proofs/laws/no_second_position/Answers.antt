use Rattle.s39_repair.proofs.SecondPosition.{one_position}
use Rattle.s39_repair.proofs.laws.no_second_position.Goals as goal

pub returns : goal.returns
returns c = λ words at other all short bad. one_position words all short bad at other
