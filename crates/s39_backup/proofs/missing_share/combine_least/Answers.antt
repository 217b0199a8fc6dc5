use Rattle.std.proofs.Common.{ap, sym, subst, ◌∙◌}
use Rattle.s39_split.specs.Recovery.{combined}
use Rattle.s39_backup.specs.GroupShares.{value_bytes_of, AreOfOneLevel}
use Rattle.s39_backup.proofs.OtherGroups.{group_level}
use Rattle.s39_backup.proofs.missing_share.combine_least.Goals as goal

pub combine_all-requires : goal.combine_all-requires
combine_all-requires c =
    let set = c.args.set.now in (
      value_bytes_of set,
      subst (AreOfOneLevel (value_bytes_of set)) (sym c.least_members.ensures)
          (group_level set c.are_a_share_set.ensures c.args.group c.requires.group c.requires.at_hand),
    )

pub returns : goal.returns
returns c = c.combine_all.ensures ∙ ap combined c.least_members.ensures
