use Rattle.std.proofs.Common.{◌≡◌, ◌<◌, ◌⊎◌, List, length, Ok, Err, inl, inr, refl, sym, ap, ◌∙◌, arith}
use Rattle.std.specs.List.{enumerate_from}
use Rattle.std.proofs.lemmas.Result.{err_from_is_err_and}
use Rattle.s39_lists.specs.Each.{each}
use Rattle.s39_set.specs.Names.{most_groups}
use Rattle.s39_backup.specs.declared.plan.Members.{Members}
use Rattle.s39_backup.specs.declared.plan_error.PlanError.TheVariants.{BadPlan, PlanGroups}
use Rattle.s39_backup.specs.Plan.{IsPlanReading, judged_group, with_threshold, judged}
use Rattle.s39_backup.proofs.PlanTexts.{list-few}
use Rattle.s39_backup.proofs.PlanReadings.{reading_judged, judged_each, judged_groups, only_reading}
use Rattle.s39_backup.proofs.plan.Plan.parse_bytes.Goals as goal
use Rattle.s39_backup.proofs.plan.Plan.parse_bytes.Goals.{After-as_slice, In_ok-check_groups}
use Rattle.s39_backup.proofs.plan.Plan.parse_bytes.Goals.{then-groups-gt-GROUPS-via-then-groups-gt-GROUPS}
use Rattle.s39_backup.proofs.plan.Plan.parse_bytes.Goals.{then-groups-gt-GROUPS-via-else-groups-gt-GROUPS+then-groups-from}

pub returns-in_default : goal.returns-in_default
returns-in_default c = only_reading c.args.text.now (Err BadPlan) (c.in_default.ensures.none refl)

pub returns-then-groups-gt-GROUPS : goal.returns-then-groups-gt-GROUPS
returns-then-groups-gt-GROUPS c =
    let listed = c.in-Some.ensures.form in
    let count = listed.is_list.count in
    let why : (most_groups < length listed.groups) ⊎ (length listed.groups < c.in-Some.group_threshold) =
    elim c.then-groups-gt-GROUPS.branch [
      | then-groups-gt-GROUPS-via-then-groups-gt-GROUPS w ↦ inl (let many = w.if-groups-gt-GROUPS.true in omega arith)
      | then-groups-gt-GROUPS-via-else-groups-gt-GROUPS+then-groups-from w ↦ inr (let few = w.if-groups-from.true in let same = w.from.ensures in omega arith)
    ] in
    only_reading c.args.text.now (Err PlanGroups) (reading_judged c.args.text.now c.in-Some.group_threshold listed.groups listed.has_form (Err PlanGroups)
    (judged_groups c.in-Some.group_threshold listed.groups why))

-- the groups decide
decided : (c : After-as_slice) → judged (c.in-Some.group_threshold, c.in-Some.ensures.form.groups)
    ≡ with_threshold c.in-Some.group_threshold (each judged_group (enumerate_from 0 c.as_slice.result.now))
decided c =
    let listed = c.in-Some.ensures.form in
    let count = listed.is_list.count in
    let few = c.if-groups-gt-GROUPS.false in
    let some = c.if-groups-from.false in
    let same = c.from.ensures in
    judged_each c.in-Some.group_threshold listed.groups (record { few = omega arith; enough = omega arith })
    ∙ ap (λ gs. with_threshold c.in-Some.group_threshold (each judged_group (enumerate_from 0 gs)))
    (sym (c.as_slice.ensures.value ∙ list-few c.in-Some.groups listed.groups listed.is_list few))

pub returns-in_err-check_groups : goal.returns-in_err-check_groups
returns-in_err-check_groups c =
    let listed = c.in-Some.ensures.form in
    let threshold = c.in-Some.group_threshold in
    let error = err_from_is_err_and c.from_residual.result c.from_residual.ensures.1 in
    rw (error.1, error.2) (only_reading c.args.text.now (Err c.in_err-check_groups.field-0.0)
    (reading_judged c.args.text.now threshold listed.groups listed.has_form (Err c.in_err-check_groups.field-0.0)
    (decided (goal.at.returns-in_err-check_groups c).After-as_slice
    ∙ ap (with_threshold threshold) c.in_err-check_groups.ensures)))

accepted : (c : In_ok-check_groups) → judged (c.in-Some.group_threshold, c.in-Some.ensures.form.groups)
    ≡ with_threshold c.in-Some.group_threshold (each judged_group (enumerate_from 0 c.as_slice.result.now))
    → IsPlanReading c.args.text.now (Ok (c.in-Some.group_threshold, c.in-Some.groups.first.items))
accepted c is =
    let listed = c.in-Some.ensures.form in
    let threshold = c.in-Some.group_threshold in
    reading_judged c.args.text.now threshold listed.groups listed.has_form (Ok (threshold, c.in-Some.groups.first.items))
    (is ∙ ap (with_threshold threshold) c.in_ok-check_groups.ensures ∙ ap (λ (gs : List Members). Ok (threshold, gs)) c.as_slice.ensures.value)

pub invariant_of-result : goal.invariant_of-result
invariant_of-result c = record { is_plan = (accepted c (decided (goal.at.invariant_of-result c).After-as_slice)).1 }

pub returns : goal.returns
returns c =
    let d = goal.at.returns c in
    only_reading c.args.text.now (Ok (c.in-Some.group_threshold, c.in-Some.groups.first.items)) (accepted d.In_ok-check_groups (decided d.After-as_slice))
