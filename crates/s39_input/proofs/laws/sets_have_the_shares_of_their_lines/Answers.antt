use Rattle.s39_input.proofs.Sets.Collected.{accepted}
use Rattle.s39_input.proofs.Sets.Refusals.{readable}
use Rattle.s39_input.proofs.laws.sets_have_the_shares_of_their_lines.Goals as goal

pub returns-clause-shares : goal.returns-clause-shares
returns-clause-shares c = λ input set read. (accepted input set read).1

pub returns-clause-readable : goal.returns-clause-readable
returns-clause-readable c = readable
