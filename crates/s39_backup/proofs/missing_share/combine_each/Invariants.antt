use Rattle.std.proofs.Common.{◌≡◌, ◌≤◌, Ok, length, take}
use Rattle.s39_lists.specs.Each.{each}
use Rattle.s39_backup.specs.GroupShares.{indexed_group_shares}
use Rattle.s39_backup.specs.Reissue.{least_share}
use Rattle.s39_backup.proofs.missing_share.combine_each.Given as goal

abbrev pub invariant-loop-group : goal.invariant-loop-group
invariant-loop-group l = record {
  combined : each (least_share l.set) (take l.group-index l.groups) ≡ Ok (indexed_group_shares l.shares.items);
  few : length l.shares.items ≤ l.group-index;
}
