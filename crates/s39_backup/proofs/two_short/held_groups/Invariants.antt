use Rattle.std.proofs.Common.{◌≡◌, ◌≤◌, take, length}
use Rattle.s39_backup.specs.TwoShort.{held_groups}
use Rattle.s39_backup.proofs.two_short.held_groups.Given as goal

abbrev pub invariant-loop-group : goal.invariant-loop-group
invariant-loop-group l = record {
  held_is : l.held.items ≡ held_groups l.names (take l.group l.groups);
  short : length l.held.items ≤ l.group;
}
