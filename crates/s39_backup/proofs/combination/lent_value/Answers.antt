use Rattle.s39_backup.proofs.Values.{has_share}
use Rattle.s39_backup.proofs.Combined.{found_some}
use Rattle.s39_backup.proofs.combination.lent_value.Goals as goal

pub unwrap-requires : goal.unwrap-requires
unwrap-requires c =
    found_some c.share_at.result c.args.group c.args.member c.args.set.now
    (has_share c.args.set.now (c.args.group, c.args.member) c.requires) c.share_at.ensures.share
