use Rattle.std.proofs.Common.{◌≡◌, ◌≤◌, take, length}
use Rattle.s39_backup.specs.Reissue.{other_groups}
use Rattle.s39_backup.proofs.at_hand.other_groups.Given as goal

abbrev pub invariant-loop-place : goal.invariant-loop-place
invariant-loop-place l = record {
  others_are : l.others.items ≡ other_groups l.set (take l.place l.groups) l.group;
  short : length l.others.items ≤ l.place;
}
