use Rattle.std.proofs.Common.{◌≡◌, ℕ, ◌<◌, ◌≤◌, length, get_or, filter, Some, sym, ap, ◌∙◌, arith}
use Rattle.std.specs.List.{range_with_len}
use Rattle.std.proofs.lemmas.Bool.{false≢true, lt-ltb, le-ltb}
use Rattle.s39_set.specs.Names.{names_in_group, most_groups}
use Rattle.s39_set.specs.Quorums.{group_threshold_of, member_threshold_of}
use Rattle.s39_set.proofs.Flags.{flag_fallen, flag_stayed}
use Rattle.s39_set.proofs.JustMembers.{has_members, AreExactBelow, exact_from_just, just_from_exact, groups_from_just}
use Rattle.s39_lists.proofs.Ranges.{length-filter-range_more_yes, length-filter-range_more_no, length-filter-range-le}
use Rattle.s39_set.proofs.OptionTests.{same_from_option_eq, option_eq-same}
use Rattle.s39_set.proofs.quorum.has_just_the_members.Goals as goal
use Rattle.s39_set.proofs.quorum.has_just_the_members.Goals.{then-members-gt0+then-not-asks_for, then-members-gt0+else-not-asks_for, else-members-gt0}

pub overflow_add-groups : goal.overflow_add-groups
overflow_add-groups c = omega (arith, length-filter-range-le (has_members c.args.names.now) c.loop-group.group, c.loop-group.invariant.groups_are)

pub loop-group-preserved : goal.loop-group-preserved
loop-group-preserved c =
    let names = c.args.names.now in
    let group = c.loop-group.group in
    let T = member_threshold_of c.args.set.now in
    let P : ℕ → Type 0 = λ g. 0 < length (names_in_group g names) → T g ≡ Some (length (names_in_group g names)) in
    let count : get_or c.members_of_groups-counts.result c.from.result 0 ≡ length (names_in_group group names) =
    ap (λ g. get_or c.members_of_groups-counts.result g 0) c.from.ensures ∙ c.members_of_groups-counts.ensures.counts group c.loop-group-test.true in
    elim c.if-members-gt0.branch [
      | then-members-gt0+then-not-asks_for w ↦ (
          let some : 0 < length (names_in_group group names) = omega arith in
          record {
            looks_are = omega arith;
            exact = flag_fallen P group c.if-members-gt0.just w.just-is
                (λ exact. false≢true (sym w.if-not-asks_for.true ∙ w.asks_for.ensures.1 (exact some ∙ ap Some (sym count))));
            groups_are = omega (arith, length-filter-range_more_yes (has_members names) group (lt-ltb 0 (length (names_in_group group names)) some));
          })
      | then-members-gt0+else-not-asks_for w ↦ (
          let some : 0 < length (names_in_group group names) = omega arith in
          record {
            looks_are = omega arith;
            exact = flag_stayed P group c.loop-group.just c.if-members-gt0.just w.just-is
                (λ _. w.asks_for.ensures.0 w.if-not-asks_for.false ∙ ap Some count) c.loop-group.invariant.exact;
            groups_are = omega (arith, length-filter-range_more_yes (has_members names) group (lt-ltb 0 (length (names_in_group group names)) some));
          })
      | else-members-gt0 w ↦ (
          let none : length (names_in_group group names) ≤ 0 = omega arith in
          record {
            looks_are = omega arith;
            exact = flag_stayed P group c.loop-group.just c.if-members-gt0.just w.just-is (λ some. absurd (omega arith)) c.loop-group.invariant.exact;
            groups_are = omega (arith, length-filter-range_more_no (has_members names) group (le-ltb 0 (length (names_in_group group names)) none));
          })
    ]

pub returns-then-just-clause-just : goal.returns-then-just-clause-just
returns-then-just-clause-just c =
    let names = c.args.names.now in
    let set = c.args.set.now in
    let all : c.loop-group.group ≡ most_groups = omega arith in
    let groups : c.loop-group.groups ≡ length (filter (has_members names) (range_with_len 0 most_groups)) =
    c.loop-group.invariant.groups_are ∙ ap (λ n. length (filter (has_members names) (range_with_len 0 n))) all in
    let exact : AreExactBelow (member_threshold_of set) names most_groups =
    λ g below some. c.loop-group.invariant.exact.0 c.if-just.true g (omega arith) some in (
      λ h.
          let threshold : group_threshold_of set ≡ Some c.loop-group.groups =
          sym c.group_threshold-required.ensures ∙ same_from_option_eq c.group_threshold-required.result c.loop-group.groups (sym c.eq.ensures ∙ h) in
          just_from_exact set names c.are_a_share_set.ensures c.requires.groups exact (threshold ∙ ap Some groups),
      λ has.
          let threshold : c.group_threshold-required.result ≡ Some c.loop-group.groups =
          c.group_threshold-required.ensures ∙ groups_from_just set names c.are_a_share_set.ensures has ∙ ap Some (sym groups) in
          c.eq.ensures ∙ option_eq-same c.group_threshold-required.result c.loop-group.groups threshold,
    )

pub returns-else-just-clause-just : goal.returns-else-just-clause-just
returns-else-just-clause-just c = (
  λ h. absurd (false≢true (sym c.if-just.false ∙ h)),
  λ has. c.loop-group.invariant.exact.1 (λ g below some. exact_from_just c.args.set.now c.args.names.now has g (omega arith) some),
)
