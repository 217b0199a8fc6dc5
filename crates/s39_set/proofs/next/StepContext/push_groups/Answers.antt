use Rattle.std.proofs.Common.{◌≡◌, ◌+◌, ◌<◌, ◌≤◌, ◌++◌, [], ℕ, Bool, true, false, List, length, get_or, take, All}
use Rattle.std.proofs.Common.{unwrap_or, sym, ap, subst, ◌∙◌, arith, append_assoc, append-nil}
use Rattle.std.specs.List.{flat_map}
use Rattle.std.proofs.lemmas.List.{length_push, flat_map_more}
use Rattle.std.proofs.lemmas.List.Elements.{All-append, All-weaker}
use Rattle.s39_set.specs.Names.{Names}
use Rattle.s39_set.specs.Quorums.{member_threshold_of}
use Rattle.s39_set.specs.Steps.{members_from, members_taken}
use Rattle.s39_set.proofs.RangesFrom.{first_from, first_from_more, first_from_without, first_from_full}
use Rattle.s39_set.proofs.Pushed.{members-group, before_first}
use Rattle.s39_set.proofs.next.StepContext.push_groups.Goals as goal
use Rattle.s39_set.proofs.next.StepContext.push_groups.Goals.{then-groups-wanted+then-self-from, else-groups-wanted}
use Rattle.s39_set.proofs.next.StepContext.push_groups.Goals.{else-groups-wanted-via-then-groups-wanted+else-self-from}
use Rattle.s39_set.proofs.next.StepContext.push_groups.Goals.{else-groups-wanted-via-else-groups-wanted}

pub push_members-requires-clause-earlier : goal.push_members-requires-clause-earlier
push_members-requires-clause-earlier c = before_first c.loop-group.group c.loop-group.quorum c.loop-group.invariant.earlier

pub loop-group-preserved : goal.loop-group-preserved
loop-group-preserved c =
    let complete = c.args.self.now.complete in
    let p : ℕ → Bool = λ g. get_or complete g false in
    let taken = members_taken c.args.set.now c.args.self.now.at_hand in
    let many = c.args.wanted in
    let a = c.args.from in
    let j = c.loop-group.group in
    let from : a ≤ j = omega arith in
    let old = c.args.quorum.now in
    let names = λ (groups : List ℕ). old ++ flat_map taken groups in
    let pushed : c.push_members.new.quorum ≡ c.loop-group.quorum ++ take c.if-groups-wanted.members (members_from c.args.self.now.at_hand j 0) =
    c.push_members.ensures.names in
    elim c.if-groups-wanted.branch [
      | then-groups-wanted+then-self-from w ↦ (
          let passes : p j ≡ true = ap (λ k. get_or complete k false) (sym w.from.ensures) ∙ w.if-self-from.true in
          let more = first_from_more p many a j from passes (omega arith) in
          let asked : c.if-groups-wanted.members ≡ unwrap_or (member_threshold_of c.args.set.now j) 0 =
          w.members-is ∙ w.unwrap_or-members.ensures ∙ ap (λ o. unwrap_or o 0) w.member_threshold.ensures in
          let added : c.push_members.new.quorum ≡ c.loop-group.quorum ++ taken j =
          pushed ∙ ap (λ n. c.loop-group.quorum ++ take n (members_from c.args.self.now.at_hand j 0)) asked in
          record {
            names_are =
                added
                ∙ ap (λ q. q ++ taken j) c.loop-group.invariant.names_are
                ∙ append_assoc old (flat_map taken (first_from p many a j)) (taken j)
                ∙ ap (λ (q : Names). old ++ q) (flat_map_more taken [] (first_from p many a j) j)
                ∙ sym (ap names more);
            groups_are = w.groups-is ∙ ap (λ n. n + 1) c.loop-group.invariant.groups_are ∙ sym (length_push (first_from p many a j) j) ∙ sym (ap length more);
            earlier = subst (All (λ n. n.0 < j + 1)) (sym added)
                (All-append (λ n. n.0 < j + 1) c.loop-group.quorum (taken j)
                (All-weaker (λ n. n.0 < j) (λ n. n.0 < j + 1) (λ n less. omega arith) c.loop-group.quorum c.loop-group.invariant.earlier)
                (All-weaker (λ n. n.0 ≡ j) (λ n. n.0 < j + 1) (λ n here. omega arith) (taken j)
                (members-group c.args.self.now.at_hand j (unwrap_or (member_threshold_of c.args.set.now j) 0))));
            looks_are = omega arith;
          })
      | else-groups-wanted w ↦ (
          let same : first_from p many a (j + 1) ≡ first_from p many a j =
          elim w.else-groups-wanted.branch [
            | else-groups-wanted-via-then-groups-wanted+else-self-from v ↦ first_from_without p many a j from
                (ap (λ k. get_or complete k false) (sym v.from.ensures) ∙ v.if-self-from.false)
            | else-groups-wanted-via-else-groups-wanted v ↦ first_from_full p many a j from (omega arith)
          ] in
          let added : c.push_members.new.quorum ≡ c.loop-group.quorum =
          pushed ∙ ap (λ n. c.loop-group.quorum ++ take n (members_from c.args.self.now.at_hand j 0)) w.members-is ∙ append-nil c.loop-group.quorum in
          record {
            names_are = added ∙ c.loop-group.invariant.names_are ∙ sym (ap names same);
            groups_are = w.groups-is ∙ c.loop-group.invariant.groups_are ∙ sym (ap length same);
            earlier = subst (All (λ n. n.0 < j + 1)) (sym added)
                (All-weaker (λ n. n.0 < j) (λ n. n.0 < j + 1) (λ n less. omega arith) c.loop-group.quorum c.loop-group.invariant.earlier);
            looks_are = omega arith;
          })
    ]
