use Rattle.std.proofs.Common.{refl, inl, inr}
use Rattle.s39_c.proofs.judging.judge_answer.Goals as goal

pub returns-in-Ok : goal.returns-in-Ok
returns-in-Ok c = inr (c.in-Ok.judged, (c.in-Ok.ensures, c.judgement_of.ensures), c.give_status.ensures)

pub returns-in-Err : goal.returns-in-Err
returns-in-Err c = inl (c.in-Err.fault, (c.in-Err.ensures, refl), refl, c.from.ensures)
