use Rattle.std.proofs.Common.{◌≡◌, ◌<◌, ◌++◌, ℕ, length, map, Some, None, Err, Less, sym, ap, subst, ◌∙◌, arith}
use Rattle.std.proofs.lemmas.List.Elements.{All-nil}
use Rattle.s39_set.specs.Names.{name_cmp, most_groups, most_members}
use Rattle.s39_set.specs.Groups.{complete_groups}
use Rattle.s39_set.specs.ShareSet.{name_of}
use Rattle.s39_set.specs.Quorums.{group_threshold_of, member_threshold_of, IsFirstQuorumAfter}
use Rattle.s39_set.specs.Lack.{IsIncomplete}
use Rattle.s39_set.specs.Steps.{groups_taken}
use Rattle.s39_set.specs.declared.set_lack.SetLack.TheVariants.{Incomplete}
use Rattle.s39_set.proofs.OneLack.{lack_once}
use Rattle.s39_lists.proofs.Pairs.{AllPairs-nil}
use Rattle.s39_set.proofs.StepOf.{groups_from_complete, least_first}
use Rattle.s39_set.proofs.SetQuorums.{incomplete_from_fewer, no_lack-from_meets}
use Rattle.s39_set.proofs.first_quorum.first.Goals as goal

pub of-context-requires-clause-names : goal.of-context-requires-clause-names
of-context-requires-clause-names c = record {
  ascending = AllPairs-nil (λ a b. name_cmp a b ≡ Less);
  groups = All-nil (λ name. name.0 < most_groups);
  members = All-nil (λ name. name.1 < most_members);
}

module _ (c : goal.Then-complete-required) where
  lacks : IsIncomplete c.args.set.now c.count_groups-complete.result c.in_ok-required.required
  lacks =
      let set = c.args.set.now in
      let required = c.in_ok-required.required in
      let threshold : group_threshold_of set ≡ Some required = sym c.group_threshold.ensures ∙ c.in_ok-required.ensures.ok_part in
      let complete : c.count_groups-complete.result ≡ length (complete_groups (member_threshold_of set) (map name_of set)) =
      c.count_groups-complete.ensures
      ∙ ap length (groups_from_complete set c.are_a_share_set.ensures c.of-context.result c.of-context.ensures.knows.complete) in
      subst (λ (n : ℕ). IsIncomplete set n required) (sym complete) (incomplete_from_fewer set c.are_a_share_set.ensures required threshold (omega arith))

pub returns-then-complete-required-clause-lack : goal.returns-then-complete-required-clause-lack
returns-then-complete-required-clause-lack c = lacks c

pub returns-then-complete-required-clause-only : goal.returns-then-complete-required-clause-only
returns-then-complete-required-clause-only c = λ lack is.
    ap Err (lack_once c.args.set.now (Incomplete c.count_groups-complete.result c.in_ok-required.required) lack (lacks c) is)

least : (c : goal.After-push_groups) → IsFirstQuorumAfter c.args.set.now None c.push_groups.new.quorum
least c =
    let set = c.args.set.now in
    let required = c.in_ok-required.required in
    let knows = c.of-context.ensures.knows in
    let names : c.push_groups.new.quorum ≡ groups_taken set c.of-context.result 0 required =
    c.push_groups.ensures.names ∙ ap (λ q. q ++ groups_taken set c.of-context.result 0 required) c.new-quorum.ensures in
    subst (IsFirstQuorumAfter set None) (sym names)
    (least_first set c.are_a_share_set.ensures c.of-context.result knows.complete knows.at_hand required
    (sym c.group_threshold.ensures ∙ c.in_ok-required.ensures.ok_part) (omega arith))

pub returns-clause-first : goal.returns-clause-first
returns-clause-first c = least c

pub returns-clause-only : goal.returns-clause-only
returns-clause-only c = λ lack is.
    absurd (no_lack-from_meets c.args.set.now c.push_groups.new.quorum (least c).quorum.meets lack is)
