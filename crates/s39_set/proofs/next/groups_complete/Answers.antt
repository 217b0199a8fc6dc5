use Rattle.std.proofs.Common.{◌≡◌, ℕ, Bool, false, map, nat_le, Option, ap₂, ◌∙◌, arith, length-set}
use Rattle.std.specs.Option.{option_map_or}
use Rattle.s39_set.specs.Groups.{is_complete}
use Rattle.s39_set.specs.Quorums.{member_threshold_of}
use Rattle.s39_set.specs.ShareSet.{name_of}
use Rattle.s39_set.proofs.FromMasks.{complete_by_count, set_more}
use Rattle.s39_set.proofs.SetQuorums.{members-below}
use Rattle.s39_set.proofs.next.groups_complete.Goals as goal

pub loop-group-preserved : goal.loop-group-preserved
loop-group-preserved c =
    let T = member_threshold_of c.args.set.now in
    let N = map name_of c.args.set.now in
    let group = c.loop-group.group in
    let long = c.loop-group.invariant.all_groups in
    let at = c.from.ensures in
    let here : c.meets.result ≡ is_complete T N group =
    c.meets.ensures
    ∙ ap₂ (λ (t : Option ℕ) (n : ℕ). option_map_or (λ threshold. nat_le threshold n) t false)
    c.member_threshold.ensures c.count_members-members.ensures.members
    ∙ complete_by_count T N c.args.at_hand.now c.requires.at_hand (members-below c.args.set.now c.requires.is_set) c.requires.is_set.ascending group
    c.loop-group-test.true in
    record {
      complete_are =
          rw at
          (set_more c.loop-group.complete (is_complete T N) group c.meets.result (omega arith) c.loop-group.invariant.complete_are here);
      all_groups = omega (arith, length-set {A = Bool});
      looks_are = omega arith;
    }
