use Rattle.s39_input.proofs.Runs.Repaired.{repairs_some, some_output}
use Rattle.s39_input.proofs.laws.some_repair_output.Goals as goal

pub returns : goal.returns
returns c = some_output (repairs_some c.some_answer.ensures c.every_share_has_a_printed_form.ensures)
