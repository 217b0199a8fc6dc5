use Rattle.std.proofs.Common.{◌≡◌, length, Some, None, refl, ap, ◌∙◌}
use Rattle.s39_backup.proofs.PlanTexts.{with_slash, without_slash, groups_once}
use Rattle.s39_backup.proofs.plan_text.plan_form.Goals as goal

pub returns-in_err-groups-clause-none : goal.returns-in_err-groups-clause-none
returns-in_err-groups-clause-none c = λ none plan.
    let one = without_slash c.args.text.now plan (c.in_default.ensures.none refl) in
    c.in_err-groups.ensures.none refl plan.groups one.2

pub returns-then-groups-ne1-clause-none : goal.returns-then-groups-ne1-clause-none
returns-then-groups-ne1-clause-none c = λ none plan.
    let one = without_slash c.args.text.now plan (c.in_default.ensures.none refl) in
    let listed = c.in_ok-groups.ensures.groups in
    let same = groups_once c.args.text.now listed.groups plan.groups listed.is_text one.2 in
    c.if-groups-ne1.true (listed.is_list.count ∙ ap length same ∙ one.1)

pub returns-in_err-group_threshold-clause-none : goal.returns-in_err-group_threshold-clause-none
returns-in_err-group_threshold-clause-none c = λ none plan.
    let parts = with_slash c.args.text.now plan c.in-Some.front.now c.in-Some.back.now c.in-Some.ensures.parts in
    let bad : None ≡ Some plan.group_threshold =
    c.in_err-group_threshold.ensures.only plan.group_threshold (record { number = plan.form.threshold_number; text_is = parts.0 }) in
    absurd (cc)

pub returns-in_err-groups-2-clause-none : goal.returns-in_err-groups-2-clause-none
returns-in_err-groups-2-clause-none c = λ none plan.
    let parts = with_slash c.args.text.now plan c.in-Some.front.now c.in-Some.back.now c.in-Some.ensures.parts in
    c.in_err-groups-2.ensures.none refl plan.groups parts.1
