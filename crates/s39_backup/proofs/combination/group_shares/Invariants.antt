use Rattle.std.proofs.Common.{◌≡◌, ◌≤◌, Ok, length}
use Rattle.s39_lists.specs.Each.{each}
use Rattle.s39_backup.specs.Combination.{group_share}
use Rattle.s39_backup.specs.GroupShares.{groups_below, indexed_group_shares}
use Rattle.s39_backup.proofs.combination.group_shares.Given as goal

abbrev pub invariant-loop-group : goal.invariant-loop-group
invariant-loop-group l = record {
  combined : each (group_share l.set l.names) (groups_below l.names l.group) ≡ Ok (indexed_group_shares l.shares.items);
  few : length l.shares.items ≤ l.group;
}
