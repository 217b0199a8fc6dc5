use Rattle.std.proofs.Common.{◌≡◌, ◌↔◌, ◌+◌, length, filter, IsTrue}
use Rattle.std.specs.List.{range_with_len}
use Rattle.s39_set.specs.Quorums.{member_threshold_of}
use Rattle.s39_set.proofs.JustMembers.{has_members, AreExactBelow}
use Rattle.s39_set.proofs.quorum.has_just_the_members.Given as goal

abbrev pub invariant-loop-group : goal.invariant-loop-group
invariant-loop-group l = record {
  looks_are : l.looks ≡ l.initial.looks + l.group;
  exact : IsTrue l.just ↔ AreExactBelow (member_threshold_of l.set) l.names l.group;
  groups_are : l.groups ≡ length (filter (has_members l.names) (range_with_len 0 l.group));
}
