use Rattle.std.proofs.Common.{inr}
use Rattle.s39_c.proofs.from_encrypted.with_params.Goals as goal

pub returns-in-Ok : goal.returns-in-Ok
returns-in-Ok c = inr ((c.in-Ok.plan.group_threshold, c.in-Ok.plan.groups.items), c.in-Ok.ensures.reading, c.by_plan.ensures)
