use Rattle.s39_input.proofs.Sets.Judgements.{judged_set, judged_again}
use Rattle.s39_input.proofs.laws.judged_sets_have_their_shares.Goals as goal

pub returns-clause-is_set : goal.returns-clause-is_set
returns-clause-is_set c = λ lines line judged is. (judged_set lines line judged is).0

pub returns-clause-shares : goal.returns-clause-shares
returns-clause-shares c = λ lines line judged is. (judged_set lines line judged is).1

pub returns-clause-again : goal.returns-clause-again
returns-clause-again c = judged_again
