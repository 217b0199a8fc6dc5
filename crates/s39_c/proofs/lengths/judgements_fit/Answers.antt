use Rattle.s39_c.proofs.Rooms.{judgement_fits}
use Rattle.s39_c.proofs.lengths.judgements_fit.Goals as goal

pub returns : goal.returns
returns c = λ lines line judgement after old new needed.
    judgement_fits c.statuses_of_sets_are_short.ensures c.judged_sets_have_their_shares.ensures.is_set lines line judgement after old new needed
