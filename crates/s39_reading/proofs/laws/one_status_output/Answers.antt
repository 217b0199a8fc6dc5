use Rattle.std.proofs.Common.{refl, sym, ◌∙◌}
use Rattle.s39_set.specs.Status.{status_of}
use Rattle.s39_input.specs.Accepted.{IsReadAs}
use Rattle.s39_reading.specs.Status.{status_written}
use Rattle.s39_input.proofs.Steps.{then_once, then_some}
use Rattle.s39_input.proofs.Sets.Checked.{same_writing}
use Rattle.s39_reading.proofs.laws.one_status_output.Goals as goal

pub returns-clause-once : goal.returns-clause-once
returns-clause-once c = λ input text other answer another p q.
    same_writing text other answer another (then_once (IsReadAs input) _ _ (c.one_set.ensures input) (λ set _ r s p q. p ∙ sym q)
    (text, answer) (other, another) p q)

pub returns-clause-exists : goal.returns-clause-exists
returns-clause-exists c = λ input.
    let (read, is_read, _) = c.every_input_is_read.ensures input in
    let (written, is) = then_some (IsReadAs input) _ _ (read, is_read) (λ set _. (status_written set (status_of set), refl)) in
    (written.0, written.1, is)
