use Rattle.std.proofs.Common.{◌≡◌, [], ◌∷◌, ◌++◌, length, take, get_or, sym, ap, ◌∙◌, arith}
use Rattle.std.proofs.lemmas.List.{append_assoc, length-append}
use Rattle.s39_split.specs.Shares.{bytes_of}
use Rattle.s39_words.specs.declared.share.ShareFields.{ShareFields}
use Rattle.s39_backup.specs.Created.{created_share, created_group}
use Rattle.s39_backup.proofs.Creating.{created_group-more}
use Rattle.s39_backup.proofs.creation.push_group.Goals as goal

pub loop-member-preserved : goal.loop-member-preserved
loop-member-preserved c =
    let h = c.args.header.now in
    let values = c.split.new.out in
    let member = c.loop-member.member in
    let value = get_or values member c.value-item.result in
    let share = created_share h.params h.group_threshold h.group_count c.args.group c.args.members member value.items in
    let before = created_group h.params h.group_threshold h.group_count c.args.group c.args.members (bytes_of (take member values)) in
    let is : c.share_of.result ≡ share =
    c.share_of.ensures
    ∙ ap (created_share h.params h.group_threshold h.group_count c.args.group c.args.members member)
    (c.as_slice.ensures.value ∙ ap (λ v. v.items) c.value-item.is) in
    record {
      shares_are = c.push.ensures
          ∙ ap (λ (s : ShareFields). c.loop-member.out ++ s ∷ []) is
          ∙ ap (λ xs. xs ++ share ∷ []) c.loop-member.invariant.shares_are
          ∙ append_assoc c.args.out.now before (share ∷ [])
          ∙ ap (λ xs. c.args.out.now ++ xs)
          (sym (created_group-more h.params h.group_threshold h.group_count c.args.group c.args.members values member c.value-item.result
          c.loop-member-test.true));
      room = let room = c.loop-member.invariant.room in
          omega (arith, simp length-append at (ap length c.push.ensures));
    }
