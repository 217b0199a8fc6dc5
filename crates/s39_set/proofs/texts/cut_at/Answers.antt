use Rattle.std.proofs.Common.{◌≡◌, ◌==◌, length, Some, None, sym, ap, ◌∙◌}
use Rattle.std.specs.List.{position}
use Rattle.s39_lists.proofs.Splits.{cut_at, position-cut}
use Rattle.s39_set.proofs.texts.cut_at.Goals as goal

pub returns-in_err-at-clause-none : goal.returns-in_err-at-clause-none
returns-in_err-at-clause-none c = λ none front back is.
    let found : None ≡ Some (length front) = c.in_err-at.ensures ∙ ap (position (λ b. b == c.args.byte)) is.text_is
    ∙ position-cut c.args.byte front back is.first in
    absurd (cc)

pub returns-clause-parts : goal.returns-clause-parts
returns-clause-parts c =
    let is = cut_at c.args.byte c.args.text.now c.in_ok-at.at (sym c.in_ok-at.ensures) in
    record { first = is.0; text_is = is.1 }
