use Rattle.std.proofs.Common.{◌≡◌, ◌+◌, ◌<◌, ℕ, length, get_or, take}
use Rattle.s39_set.specs.Names.{names_in_group, most_groups}
use Rattle.s39_set.proofs.quorum.members_of_groups.Given as goal

abbrev pub invariant-loop-group : goal.invariant-loop-group
invariant-loop-group l = record {
  looks_are : l.looks ≡ l.fn.looks + l.group-index;
  all_groups : length l.counts ≡ most_groups;
  counted : (g : ℕ) → g < most_groups → get_or l.counts g 0 ≡ length (names_in_group g (take l.group-index l.names));
}
