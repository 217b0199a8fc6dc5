use Rattle.std.proofs.Common.{◌≡◌, ◌≤◌, take, length}
use Rattle.s39_set.specs.Names.{names_in_group}
use Rattle.s39_backup.proofs.two_short.count_in_group.Given as goal

abbrev pub invariant-loop-of : goal.invariant-loop-of
invariant-loop-of l = record {
  counted : l.count ≡ length (names_in_group l.group (take l.of-index l.names));
  short : l.count ≤ l.of-index;
}
