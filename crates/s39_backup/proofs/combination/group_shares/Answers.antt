use Rattle.std.proofs.Common.{◌≡◌, ◌<◌, ◌≤◌, length, Ok, sym, ap, ◌∙◌, arith}
use Rattle.s39_set.specs.Names.{most_groups}
use Rattle.s39_split.specs.Recovery.{combined}
use Rattle.s39_backup.specs.declared.combination.Mismatch.TheVariants.{InGroup}
use Rattle.s39_backup.specs.Combination.{share_or_mismatch}
use Rattle.s39_backup.specs.GroupShares.{indexed_group_shares, value_bytes_of}
use Rattle.s39_backup.proofs.Levels.{with_group, without_group, stops_at_group}
use Rattle.s39_backup.proofs.Combined.{indexed_group_shares-push, length-members, members_can, some_from_test, none_from_test}
use Rattle.s39_backup.proofs.combination.group_shares.Goals as goal
use Rattle.s39_backup.proofs.combination.group_shares.Goals.{then-not-is_empty+in-Ok, else-not-is_empty}

pub combine_all-requires : goal.combine_all-requires
combine_all-requires c =
    let set = c.args.set.now in
    let members = c.member_shares-members.result in (
      value_bytes_of set,
      members_can set c.args.names.now c.requires.quorum c.loop-group.group members c.member_shares-members.ensures
          (some_from_test c.is_empty.result (length members) c.is_empty.ensures c.if-not-is_empty.true),
    )

pub returns-in_default : goal.returns-in_default
returns-in_default c =
    let set = c.args.set.now in
    let names = c.args.names.now in
    let group = c.loop-group.group in
    let members = c.member_shares-members.result in
    let some : 0 < length members = some_from_test c.is_empty.result (length members) c.is_empty.ensures c.if-not-is_empty.true in
    stops_at_group set names c.requires.quorum group (indexed_group_shares c.loop-group.shares.items) c.loop-group.invariant.combined (InGroup group)
    c.loop-group-test.true (omega (arith, length-members set names c.requires.quorum group members c.member_shares-members.ensures))
    (ap (share_or_mismatch group) (ap combined (sym c.member_shares-members.ensures) ∙ sym c.in_default.ensures))

pub push-requires : goal.push-requires
push-requires c = (omega (arith, c.loop-group.invariant.few), omega (arith, c.loop-group.invariant.few))

pub loop-group-preserved : goal.loop-group-preserved
loop-group-preserved c =
    let set = c.args.set.now in
    let names = c.args.names.now in
    let group = c.loop-group.group in
    let members = c.member_shares-members.result in
    let shares = c.loop-group.shares.items in
    let before = c.loop-group.invariant.combined in
    elim c.if-not-is_empty.branch [
      | then-not-is_empty+in-Ok w ↦
          let some : 0 < length members = some_from_test c.is_empty.result (length members) c.is_empty.ensures w.if-not-is_empty.true in
          record {
            combined = with_group set names c.requires.quorum group (indexed_group_shares shares) before (group, w.in-Ok.share.items)
                (omega (arith, length-members set names c.requires.quorum group members c.member_shares-members.ensures))
                (ap (share_or_mismatch group) (ap combined (sym c.member_shares-members.ensures) ∙ sym w.in-Ok.ensures))
                ∙ sym (ap (λ v. Ok (indexed_group_shares v.items)) w.shares-is
                ∙ ap (λ items. Ok (indexed_group_shares items)) w.push.ensures.items
                ∙ ap (λ pairs. Ok pairs) (indexed_group_shares-push shares (group, w.in-Ok.share)));
            few = omega (arith, ap (λ v. length v.items) w.shares-is, w.push.ensures.len, c.loop-group.invariant.few);
          }
      | else-not-is_empty w ↦
          let none : length members ≤ 0 = none_from_test c.is_empty.result (length members) c.is_empty.ensures w.if-not-is_empty.false in
          record {
            combined = without_group set names c.requires.quorum group (indexed_group_shares shares) before
                (omega (arith, length-members set names c.requires.quorum group members c.member_shares-members.ensures))
                ∙ sym (ap (λ v. Ok (indexed_group_shares v.items)) w.shares-is);
            few = omega (arith, ap (λ v. length v.items) w.shares-is, c.loop-group.invariant.few);
          }
    ]

pub returns : goal.returns
returns c =
    let all : c.loop-group.group ≡ most_groups = omega arith in
    rw all at c.loop-group.invariant.combined
