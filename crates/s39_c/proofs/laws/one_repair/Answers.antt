use Rattle.s39_c.proofs.OneRepair.{repair_once}
use Rattle.s39_c.proofs.laws.one_repair.Goals as goal

pub returns : goal.returns
returns c = repair_once c.one_answer.ensures c.one_printed_form.ensures
