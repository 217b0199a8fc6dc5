use Rattle.s39_input.specs.Input.{whole}
use Rattle.s39_creating.specs.Resplit.{IsResplitOutput, ResplitsCreated}
use Rattle.s39_c.proofs.Outputs.{split_weaker}
use Rattle.s39_c.proofs.resplitting.shamir_resplit.Goals as goal

pub returns-clause-created : goal.returns-clause-created
returns-clause-created c =
    split_weaker
    (λ threshold groups. IsResplitOutput threshold groups c.args.random.now (whole c.args.lines.now))
    (λ threshold groups. ResplitsCreated threshold groups c.args.random.now (whole c.args.lines.now))
    (λ threshold groups text answer. c.created_backups_are_split_anew.ensures threshold groups c.args.random.now (whole c.args.lines.now) text answer)
    c.args.plan.now c.args.mnemonics.now c.resplit_answer-answer.new.mnemonics c.resplit_answer-answer.result c.resplit_answer-answer.ensures
