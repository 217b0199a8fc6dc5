use Rattle.std.proofs.Common.{inr}
use Rattle.s39_c.proofs.decrypting_rounds.round_answer.Goals as goal

pub returns-in-Ok : goal.returns-in-Ok
returns-in-Ok c = inr (c.in-Ok.params, c.in-Ok.ensures, c.numbered_round.ensures)
