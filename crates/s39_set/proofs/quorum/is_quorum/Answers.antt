use Rattle.std.proofs.Common.{map, Contains, sym, subst, ◌∙◌}
use Rattle.std.proofs.lemmas.Bool.{false≢true}
use Rattle.std.proofs.lemmas.List.Elements.{All-same}
use Rattle.s39_set.specs.ShareSet.{name_of}
use Rattle.s39_set.specs.Quorums.{HasJustTheMembers, HasJustTheGroups}
use Rattle.s39_set.proofs.SetQuorums.{just_from_quorum, quorum_from_just}
use Rattle.s39_set.proofs.quorum.is_quorum.Goals as goal

pub returns-then-at_hand-clause-quorum : goal.returns-then-at_hand-clause-quorum
returns-then-at_hand-clause-quorum c =
    let set = c.args.set.now in
    let names = c.args.quorum.now in
    let same = c.pairs-names.ensures.same in (
      λ h. quorum_from_just set c.are_a_share_set.ensures names (record {
        at_hand = record {
          ascending = c.pairs-names.ensures.names.ascending;
          at_hand = All-same (Contains (map name_of set)) names c.pairs-names.result.now (sym same)
              (c.are_at_hand-at_hand.ensures.at_hand.0 c.if-at_hand.true);
        };
        just = subst (HasJustTheMembers set) same (c.has_just_the_members-just.ensures.just.0 h);
      }),
      λ quorum.
          let has : HasJustTheGroups set names = just_from_quorum set c.are_a_share_set.ensures names quorum in
          c.has_just_the_members-just.ensures.just.1 (subst (HasJustTheMembers set) (sym same) has.just),
    )

pub returns-else-at_hand-clause-quorum : goal.returns-else-at_hand-clause-quorum
returns-else-at_hand-clause-quorum c =
    let set = c.args.set.now in (
      λ h. absurd (false≢true (sym c.if-at_hand.false ∙ h)),
      λ quorum.
          c.are_at_hand-at_hand.ensures.at_hand.1
          (All-same (Contains (map name_of set)) c.pairs-names.result.now c.args.quorum.now c.pairs-names.ensures.same quorum.meets.at_hand.at_hand),
    )
