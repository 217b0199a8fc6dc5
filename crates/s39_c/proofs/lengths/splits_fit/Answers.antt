use Rattle.s39_input.specs.Input.{whole}
use Rattle.s39_creating.specs.Resplit.{IsResplitOutput}
use Rattle.s39_c.proofs.Rooms.{split_fits}
use Rattle.s39_c.proofs.lengths.splits_fit.Goals as goal

pub returns : goal.returns
returns c = λ plan lines random old new needed.
    split_fits (λ threshold groups. IsResplitOutput threshold groups random (whole lines))
    (λ threshold groups text. c.resplits_are_short.ensures threshold groups random (whole lines) text) plan old new needed
