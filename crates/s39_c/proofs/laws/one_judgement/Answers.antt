use Rattle.s39_c.proofs.OneJudgement.{judgement_once, judgement_some}
use Rattle.s39_c.proofs.laws.one_judgement.Goals as goal

pub returns-clause-once : goal.returns-clause-once
returns-clause-once c = λ lines line judgement first second old new other answer another.
    judgement_once lines line judgement old first second new other answer another

pub returns-clause-exists : goal.returns-clause-exists
returns-clause-exists c = judgement_some
