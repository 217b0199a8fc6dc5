use Rattle.std.proofs.Common.{inr}
use Rattle.s39_c.proofs.drilling.drill_in.Goals as goal

pub returns-in-Ok : goal.returns-in-Ok
returns-in-Ok c = inr (c.in-Ok.kind, c.in-Ok.is, c.drill_up_to.ensures)
