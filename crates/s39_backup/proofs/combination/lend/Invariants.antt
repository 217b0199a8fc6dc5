use Rattle.std.proofs.Common.{◌≡◌, take}
use Rattle.s39_backup.specs.GroupShares.{indexed_group_shares}
use Rattle.s39_backup.proofs.combination.lend.Given as goal

abbrev pub invariant-loop-share : goal.invariant-loop-share
invariant-loop-share l = l.lent ≡ indexed_group_shares (take l.share-index l.share-items)
