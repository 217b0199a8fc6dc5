use Rattle.std.proofs.Common.{◌≡◌, ℕ, suc, ◌+◌, ◌-◌, ◌<◌, ◌≤◌, ◌∷◌, map, min, get_or, Some, sym, subst, ap, ◌∙◌, arith}
use Rattle.std.specs.List.{range_with_len}
use Rattle.std.specs.Option.{option_map_or}
use Rattle.s39_set.specs.Names.{most_groups}
use Rattle.s39_set.specs.Quorums.{group_threshold_of}
use Rattle.s39_set.specs.Counting.{ways, member_choices, most_counted, AreWays}
use Rattle.s39_set.proofs.SetQuorums.{group_threshold-most}
use Rattle.s39_set.proofs.counting.quorum_count_of.Goals as goal

-- the groups from one on are that one and those above it
groups-down : (f : ℕ → ℕ) (g : ℕ) → 0 < g → g ≤ most_groups
    → f (g - 1) ∷ map f (range_with_len g (most_groups - g)) ≡ map f (range_with_len (g - 1) (most_groups - (g - 1)))
groups-down f g some upto =
    let next : (g - 1) + 1 ≡ g = omega arith in
    let long : suc (most_groups - g) ≡ most_groups - (g - 1) = omega arith in
    ap (λ h. f (g - 1) ∷ map f (range_with_len h (most_groups - g))) (sym next)
    ∙ ap (λ n. map f (range_with_len (g - 1) n)) long

pub returns-in_default : goal.returns-in_default
returns-in_default c =
    ap (λ o. min (option_map_or (ways (map (member_choices c.args.set.now) (range_with_len 0 most_groups))) o 0) most_counted)
    (sym c.in_default.is ∙ c.group_threshold.ensures)

pub loop-group-init : goal.loop-group-init
loop-group-init c = record { upto = omega arith; ways_are = c.of_no_parts-table.ensures.ways }

pub loop-group-preserved : goal.loop-group-preserved
loop-group-preserved c =
    let set = c.args.set.now in
    let group = c.loop-group.group in
    let above = map (member_choices set) (range_with_len group (most_groups - group)) in
    record {
      upto = let upto = c.loop-group.invariant.upto in omega arith;
      ways_are = subst (AreWays c.with_one_more-table.result)
          (groups-down (member_choices set) group c.loop-group-test.true c.loop-group.invariant.upto)
          (c.with_one_more-table.ensures.ways above (member_choices set (group - 1)) c.loop-group.invariant.ways_are c.member_choices-uses.ensures);
    }

pub bounds-table-from : goal.bounds-table-from
bounds-table-from c =
    let most = group_threshold-most c.args.set.now c.are_a_share_set.ensures c.in-Some.required (sym c.group_threshold.ensures ∙ c.in-Some.is) in
    omega arith

pub returns : goal.returns
returns c =
    let set = c.args.set.now in
    let threshold : group_threshold_of set ≡ Some c.in-Some.required = sym c.group_threshold.ensures ∙ c.in-Some.is in
    let most = group_threshold-most set c.are_a_share_set.ensures c.in-Some.required threshold in
    let none : c.loop-group.group ≡ 0 = omega arith in
    let uses = λ (g : ℕ). map (member_choices set) (range_with_len g (most_groups - g)) in
    ap (λ i. get_or c.loop-group.table i 0) c.from.ensures
    ∙ c.loop-group.invariant.ways_are c.in-Some.required (omega arith)
    ∙ ap (λ g. min (ways (uses g) c.in-Some.required) most_counted) none
    ∙ ap (λ o. min (option_map_or (ways (uses 0)) o 0) most_counted) (sym threshold)
