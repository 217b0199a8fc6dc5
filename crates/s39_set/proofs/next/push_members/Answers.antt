use Rattle.std.proofs.Common.{◌≡◌, ◌+◌, ◌≤◌, ◌++◌, [], ◌∷◌, ℕ, List, length, map, filter, ◌-◌, true, All, Less, sym, ap, subst, ◌∙◌, arith}
use Rattle.std.proofs.Common.{append_assoc}
use Rattle.std.proofs.lemmas.List.{map_push, length_push, take-map}
use Rattle.s39_set.specs.Names.{Name, Names, name_cmp, most_members}
use Rattle.s39_set.specs.Masks.{is_in}
use Rattle.s39_set.proofs.RangesFrom.{first_from, first_from_more, first_from_without, first_from_full, all_before_next}
use Rattle.s39_set.proofs.next.push_members.Goals as goal
use Rattle.s39_set.proofs.next.push_members.Goals.{then-members-wanted+then-has, else-members-wanted}
use Rattle.s39_set.proofs.next.push_members.Goals.{else-members-wanted-via-then-members-wanted+else-has}
use Rattle.s39_set.proofs.next.push_members.Goals.{else-members-wanted-via-else-members-wanted}
use Rattle.std.specs.List.{range_with_len}

pub push-requires-clause-later : goal.push-requires-clause-later
push-requires-clause-later c =
    subst (All (λ n. name_cmp n (c.args.group, c.loop-member.member) ≡ Less)) (sym c.loop-member.invariant.names_are)
    (all_before_next (is_in c.args.masks.now c.args.group) c.args.wanted c.args.from c.loop-member.member c.args.group
    (omega arith) c.args.quorum.now c.requires.earlier)

pub loop-member-preserved : goal.loop-member-preserved
loop-member-preserved c =
    let p = is_in c.args.masks.now c.args.group in
    let many = c.args.wanted in
    let a = c.args.from in
    let j = c.loop-member.member in
    let from : a ≤ j = omega arith in
    let old = c.args.quorum.now in
    let names = λ (members : List ℕ). old ++ map (λ member. (c.args.group, member)) members in
    elim c.if-members-wanted.branch [
      | then-members-wanted+then-has w ↦ (
          let passes : p j ≡ true = sym w.has.ensures ∙ w.if-has.true in
          let more = first_from_more p many a j from passes (omega arith) in
          record {
            names_are =
                w.quorum-is ∙ w.push.ensures
                ∙ ap (λ q. q ++ (c.args.group, j) ∷ []) c.loop-member.invariant.names_are
                ∙ append_assoc old (map (λ member. (c.args.group, member)) (first_from p many a j)) ((c.args.group, j) ∷ [])
                ∙ ap (λ q. old ++ q) (sym (map_push (λ member. (c.args.group, member)) (first_from p many a j) j))
                ∙ sym (ap names more);
            members_are =
                w.members-is ∙ ap (λ n. n + 1) c.loop-member.invariant.members_are ∙ sym (length_push (first_from p many a j) j) ∙ sym (ap length more);
            looks_are = omega arith;
          })
      | else-members-wanted w ↦ (
          let same : first_from p many a (j + 1) ≡ first_from p many a j =
          elim w.else-members-wanted.branch [
            | else-members-wanted-via-then-members-wanted+else-has v ↦ first_from_without p many a j from (sym v.has.ensures ∙ v.if-has.false)
            | else-members-wanted-via-else-members-wanted v ↦ first_from_full p many a j from (omega arith)
          ] in
          record {
            names_are = w.quorum-is ∙ c.loop-member.invariant.names_are ∙ sym (ap names same);
            members_are = w.members-is ∙ c.loop-member.invariant.members_are ∙ sym (ap length same);
            looks_are = omega arith;
          })
    ]

pub returns-clause-names : goal.returns-clause-names
returns-clause-names c =
    let p = is_in c.args.masks.now c.args.group in
    let last : c.loop-member.member ≡ most_members = omega arith in
    let pair : ℕ → Name = λ member. (c.args.group, member) in
    c.loop-member.invariant.names_are
    ∙ ap (λ n. c.args.quorum.now ++ map pair (first_from p c.args.wanted c.args.from n)) last
    ∙ ap (λ (l : Names). c.args.quorum.now ++ l) (sym (take-map pair c.args.wanted (filter p (range_with_len c.args.from (most_members - c.args.from)))))
