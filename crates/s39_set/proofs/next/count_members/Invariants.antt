use Rattle.std.proofs.Common.{◌≡◌, ◌+◌, ◌-◌, ◌≤◌, length, filter}
use Rattle.std.specs.List.{range_with_len}
use Rattle.s39_set.specs.Masks.{is_in}
use Rattle.s39_set.proofs.next.count_members.Given as goal

abbrev pub invariant-loop-other : goal.invariant-loop-other
invariant-loop-other l = record {
  members_are : l.members ≡ length (filter (is_in l.masks l.group) (range_with_len l.from (l.other - l.from)));
  few : l.members ≤ l.other;
  looks_are : l.looks ≡ l.fn.looks + (l.other - l.from);
}
