use Rattle.std.proofs.Common.{◌≡◌, ◌+◌, ◌*◌, ◌≤◌, ◌++◌, length, take}
use Rattle.s39_split.specs.Shares.{bytes_of}
use Rattle.s39_set.specs.Names.{most_members}
use Rattle.s39_backup.specs.Created.{created_group}
use Rattle.s39_backup.proofs.creation.push_group.Given as goal

abbrev pub invariant-loop-member : goal.invariant-loop-member
invariant-loop-member l = record {
  shares_are : l.out ≡ l.initial.out ++ created_group l.header.params l.header.group_threshold l.header.group_count l.group l.members
      (bytes_of (take l.member l.value-items));
  room : length l.out ≤ most_members * l.group + l.member;
}
