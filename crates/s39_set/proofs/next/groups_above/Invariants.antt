use Rattle.std.proofs.Common.{◌≡◌, ◌+◌, ◌-◌, ◌≤◌, length, filter, get_or, nat_lt}
use Rattle.std.specs.List.{range_with_len}
use Rattle.s39_set.proofs.next.groups_above.Given as goal

abbrev pub invariant-loop-later : goal.invariant-loop-later
invariant-loop-later l = record {
  groups_are : l.groups ≡ length (filter (λ g. nat_lt 0 (get_or l.members g 0)) (range_with_len (l.group + 1) (l.later - (l.group + 1))));
  few : l.groups ≤ l.later;
  looks_are : l.looks ≡ l.fn.looks + (l.later - (l.group + 1));
}
