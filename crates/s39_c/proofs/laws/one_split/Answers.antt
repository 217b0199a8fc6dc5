use Rattle.s39_input.specs.Input.{whole}
use Rattle.s39_creating.specs.Resplit.{IsResplitOutput}
use Rattle.s39_c.proofs.OneAnswer.{split_once}
use Rattle.s39_c.proofs.laws.one_split.Goals as goal

pub returns : goal.returns
returns c = λ plan lines random old.
    split_once c.one_plan_reading.ensures (λ threshold groups. IsResplitOutput threshold groups random (whole lines))
    (λ threshold groups. c.one_resplit_output.ensures.once threshold groups random (whole lines)) plan old
