use Rattle.std.proofs.Common.{inr}
use Rattle.s39_c.proofs.recovering.recover_answer.Goals as goal

pub returns-in-Ok : goal.returns-in-Ok
returns-in-Ok c = inr (c.in-Ok.noted, c.in-Ok.ensures, c.recover_expected.ensures)
