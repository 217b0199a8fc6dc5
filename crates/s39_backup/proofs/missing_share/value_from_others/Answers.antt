use Rattle.std.proofs.Common.{◌≡◌, ℕ, length, take, inl, inr, sym, ap, ap₂, subst, ◌∙◌, arith}
use Rattle.s39_lists.specs.Each.{and_then}
use Rattle.s39_backup.specs.Reissue.{other_groups, points_by_others, value_at}
use Rattle.s39_backup.specs.Reissuing.{AreComplete}
use Rattle.s39_backup.proofs.OtherGroups.{others_complete}
use Rattle.s39_backup.proofs.Points.{value_from, are_one_short, are_too_few}
use Rattle.s39_backup.proofs.missing_share.value_from_others.Goals as goal
use Rattle.s39_backup.proofs.missing_share.value_from_others.Goals.{After-as_slice-all}

all_are : (c : After-as_slice-all) → c.as_slice-all.result.now ≡ other_groups c.args.set.now c.args.plan.now.groups.items c.args.group.0
all_are c =
    c.as_slice-all.ensures.value ∙ c.other_groups-others.ensures
    ∙ ap (λ gs. other_groups c.args.set.now gs c.args.group.0) c.as_slice-groups.ensures.value

pub returns-then-with_share-needed : goal.returns-then-with_share-needed
returns-then-with_share-needed c =
    let plan = c.args.plan.now in
    let name : ℕ × ℕ = (c.args.group.0, c.args.member) in
    let same = all_are (goal.at.returns-then-with_share-needed c).After-as_slice-all in
    let below = c.if-with_share-needed.true in
    let lack = are_too_few c.args.set.now plan.group_threshold plan.groups.items name c.args.group.1 (omega arith) (inl (λ one. omega arith)) in
    rw (c.requires.at_hand, same) (value_from c.args.set.now plan.group_threshold plan.groups.items name c.args.group.1 _ lack.points_are)

pub returns-then-count-required : goal.returns-then-count-required
returns-then-count-required c =
    let plan = c.args.plan.now in
    let name : ℕ × ℕ = (c.args.group.0, c.args.member) in
    let same = all_are (goal.at.returns-then-count-required c).After-as_slice-all in
    let below = c.if-count-required.true in
    let lack = are_too_few c.args.set.now plan.group_threshold plan.groups.items name c.args.group.1 (omega arith)
    (inr (omega (arith, ap length same))) in
    rw (c.requires.at_hand, same) (value_from c.args.set.now plan.group_threshold plan.groups.items name c.args.group.1 _ lack.points_are)

pub value_by_others-requires-clause-complete : goal.value_by_others-requires-clause-complete
value_by_others-requires-clause-complete c =
    let set = c.args.set.now in
    let plan = c.args.plan.now in
    let all = c.as_slice-all.result.now in
    let same = all_are (goal.at.value_by_others-requires-clause-complete c).After-as_slice-all in
    let enough = c.if-count-required.false in
    let few = plan.is_plan.enough.few in
    let most = plan.is_plan.enough.enough in
    subst (λ (n : ℕ). AreComplete set (take n all)) (sym c.from-required.ensures)
    (subst (λ gs. AreComplete set (take plan.group_threshold gs)) (sym same)
    (others_complete set c.args.group.0 plan.groups.items plan.is_plan.each few plan.group_threshold (omega (arith, ap length same)) (omega arith)))

pub returns : goal.returns
returns c =
    let plan = c.args.plan.now in
    let set = c.args.set.now in
    let name : ℕ × ℕ = (c.args.group.0, c.args.member) in
    let same = all_are (goal.at.returns c).After-as_slice-all in
    let short = are_one_short set plan.group_threshold plan.groups.items name c.args.group.1 (omega arith) (omega (arith, ap length same)) in
    value_from set plan.group_threshold plan.groups.items name c.args.group.1 _ short.points_are
    ∙ ap (λ others. and_then (value_at c.args.group.0 c.args.member) (points_by_others set others c.args.group.0))
    (ap₂ take (sym c.from-required.ensures) (sym same))
    ∙ c.value_by_others.ensures
