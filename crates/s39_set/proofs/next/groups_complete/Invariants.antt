use Rattle.std.proofs.Common.{◌≡◌, ◌+◌, ◌*◌, ◌<◌, ℕ, map, length, get_or, false}
use Rattle.s39_set.specs.Groups.{is_complete}
use Rattle.s39_set.specs.ShareSet.{name_of}
use Rattle.s39_set.specs.Quorums.{member_threshold_of}
use Rattle.s39_set.specs.Names.{most_groups, most_members}
use Rattle.s39_set.proofs.next.groups_complete.Given as goal

abbrev pub invariant-loop-group : goal.invariant-loop-group
invariant-loop-group l = record {
  complete_are : (g : ℕ) → g < l.group → get_or l.complete g false ≡ is_complete (member_threshold_of l.set) (map name_of l.set) g;
  all_groups : length l.complete ≡ most_groups;
  looks_are : l.looks ≡ l.fn.looks + l.group * (1 + most_members);
}
