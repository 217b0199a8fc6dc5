use Rattle.std.proofs.Common.{◌-◌, ◌≤◌, map}
use Rattle.std.specs.List.{range_with_len}
use Rattle.s39_set.specs.Names.{most_groups}
use Rattle.s39_set.specs.Counting.{member_choices, AreWays}
use Rattle.s39_set.proofs.counting.quorum_count_of.Given as goal

abbrev pub invariant-loop-group : goal.invariant-loop-group
invariant-loop-group l = record {
  upto : l.group ≤ most_groups;
  ways_are : AreWays l.table (map (member_choices l.set) (range_with_len l.group (most_groups - l.group)));
}
