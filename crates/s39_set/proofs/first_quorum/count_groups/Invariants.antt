use Rattle.std.proofs.Common.{◌≡◌, ◌-◌, ◌≤◌, length, filter, get_or, false}
use Rattle.std.specs.List.{range_with_len}
use Rattle.s39_set.proofs.first_quorum.count_groups.Given as goal

abbrev pub invariant-loop-group : goal.invariant-loop-group
invariant-loop-group l = record {
  groups_are : l.groups ≡ length (filter (λ g. get_or l.complete g false) (range_with_len 0 (l.group - 0)));
  few : l.groups ≤ l.group;
}
