use Rattle.std.proofs.Common.{◌≤◌, ℕ, length, sym, ap, ◌∙◌, subst, arith}
use Rattle.s39_backup.specs.GroupShares.{value_bytes_of}
use Rattle.s39_backup.specs.Reissue.{value_at}
use Rattle.s39_backup.specs.Reissuing.{ArePointsOfOneLevel}
use Rattle.s39_backup.proofs.Combining.{level-points}
use Rattle.s39_backup.proofs.MembersAtHand.{taken_all, taken_few}
use Rattle.s39_backup.proofs.OtherGroups.{group_level}
use Rattle.s39_backup.proofs.Points.{value_from, are_enough}
use Rattle.s39_backup.specs.Reissue.{members_at_hand, least_members}
use Rattle.s39_backup.proofs.missing_share.missing_value.Goals as goal
use Rattle.s39_backup.proofs.missing_share.missing_value.Goals.{Then-at_hand-needed, Else-at_hand-needed}

enough : (c : Then-at_hand-needed) → c.args.group.1.threshold ≤ length (members_at_hand c.args.set.now c.args.group.0)
enough c =
    taken_all c.args.group.1.threshold (members_at_hand c.args.set.now c.args.group.0)
    (ap length (sym c.least_members-points.ensures) ∙ sym c.len-at_hand.ensures ∙ c.if-at_hand-needed.true ∙ c.from-needed.ensures)

pub value_at-requires : goal.value_at-requires
value_at-requires c =
    let set = c.args.set.now in
    let d = (goal.at.value_at-requires c).Then-at_hand-needed in (
      value_bytes_of set,
      subst (ArePointsOfOneLevel (value_bytes_of set)) (sym c.least_members-points.ensures)
          (level-points (value_bytes_of set) (least_members set c.args.group)
          (group_level set c.are_a_share_set.ensures c.args.group c.requires (enough d))),
    )

pub returns-then-at_hand-needed : goal.returns-then-at_hand-needed
returns-then-at_hand-needed c =
    let plan = c.args.plan.now in
    let d = (goal.at.returns-then-at_hand-needed c).Then-at_hand-needed in
    let name : ℕ × ℕ = (c.args.group.0, c.args.member) in
    value_from c.args.set.now plan.group_threshold plan.groups.items name c.args.group.1 _
    (are_enough c.args.set.now plan.group_threshold plan.groups.items name c.args.group.1 (enough d)).points_are
    ∙ ap (value_at c.args.group.0 c.args.member) (sym c.least_members-points.ensures) ∙ c.value_at.ensures

pub value_from_others-requires-clause-at_hand : goal.value_from_others-requires-clause-at_hand
value_from_others-requires-clause-at_hand c =
    let members = members_at_hand c.args.set.now c.args.group.0 in
    c.len-at_hand.ensures ∙ ap length c.least_members-points.ensures
    ∙ (taken_few c.args.group.1.threshold members
    (λ same. c.if-at_hand-needed.false
    (c.len-at_hand.ensures ∙ ap length c.least_members-points.ensures ∙ same ∙ sym c.from-needed.ensures))).0

pub value_from_others-requires-clause-few : goal.value_from_others-requires-clause-few
value_from_others-requires-clause-few c =
    let members = members_at_hand c.args.set.now c.args.group.0 in
    let few = taken_few c.args.group.1.threshold members
    (λ same. c.if-at_hand-needed.false
    (c.len-at_hand.ensures ∙ ap length c.least_members-points.ensures ∙ same ∙ sym c.from-needed.ensures)) in
    let first = few.0 in
    let second = few.1 in
    omega (arith, c.len-at_hand.ensures, ap length c.least_members-points.ensures)
