use Rattle.s39_input.proofs.Runs.Repaired.{repairs_once, one_output}
use Rattle.s39_input.proofs.laws.one_repair_output.Goals as goal

pub returns : goal.returns
returns c = one_output (repairs_once c.one_answer.ensures c.one_printed_form.ensures)
