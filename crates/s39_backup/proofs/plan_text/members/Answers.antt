use Rattle.std.proofs.Common.{◌≡◌, ◌==◌, length, Some, None, refl, ap, ◌∙◌}
use Rattle.std.proofs.lemmas.Bool.{false≢true}
use Rattle.s39_backup.proofs.PlanTexts.{cut_of_members, rest_of_members, parts_of_members}
use Rattle.s39_backup.proofs.plan_text.members.Goals as goal

pub returns-in_err-front-clause-none : goal.returns-in_err-front-clause-none
returns-in_err-front-clause-none c = λ none members is. c.in_err-front.ensures.none refl _ _ (cut_of_members c.args.text.now members is)

pub returns-in_err-between-clause-none : goal.returns-in_err-between-clause-none
returns-in_err-between-clause-none c = λ none members is.
    c.in_err-between.ensures.none refl _ _ (rest_of_members c.args.text.now _ _ c.in_ok-front.ensures.parts members is)

pub returns-then-not-is_empty-clause-none : goal.returns-then-not-is_empty-clause-none
returns-then-not-is_empty-clause-none c = λ none members is.
    let parts = parts_of_members _ _ _ _ _ c.in_ok-front.ensures.parts c.in_ok-between.ensures.parts members is in
    absurd (false≢true (c.if-not-is_empty.ensures ∙ ap (λ between. length between == 0) parts.1))

pub returns-in_err-threshold-clause-none : goal.returns-in_err-threshold-clause-none
returns-in_err-threshold-clause-none c = λ none members is.
    let parts = parts_of_members _ _ _ _ _ c.in_ok-front.ensures.parts c.in_ok-between.ensures.parts members is in
    let bad : None ≡ Some members.threshold = c.in_err-threshold.ensures.only members.threshold (record { number = is.numbers.0; text_is = parts.0 }) in
    absurd (cc)

pub returns-in_err-count-clause-none : goal.returns-in_err-count-clause-none
returns-in_err-count-clause-none c = λ none members is.
    let parts = parts_of_members _ _ _ _ _ c.in_ok-front.ensures.parts c.in_ok-between.ensures.parts members is in
    let bad : None ≡ Some members.count = c.in_err-count.ensures.only members.count (record { number = is.numbers.1; text_is = parts.2 }) in
    absurd (cc)
