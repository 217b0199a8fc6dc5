use Rattle.s39_c.proofs.OneAnswer.{number_once}
use Rattle.s39_c.proofs.laws.one_number.Goals as goal

pub returns : goal.returns
returns c = number_once c.one_plan_reading.ensures
