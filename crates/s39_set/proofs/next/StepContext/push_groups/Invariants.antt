use Rattle.std.proofs.Common.{◌≡◌, ◌+◌, ◌-◌, ◌*◌, ◌<◌, ◌++◌, length, get_or, filter, take, false, All}
use Rattle.std.specs.List.{range_with_len, flat_map}
use Rattle.s39_set.specs.Steps.{members_taken}
use Rattle.s39_set.specs.Names.{most_members}
use Rattle.s39_set.proofs.next.StepContext.push_groups.Given as goal

abbrev pub invariant-loop-group : goal.invariant-loop-group
invariant-loop-group l = record {
  names_are : l.quorum ≡ l.fn.quorum ++ flat_map (members_taken l.set l.self.at_hand)
      (take l.wanted (filter (λ g. get_or l.self.complete g false) (range_with_len l.from (l.group - l.from))));
  groups_are : l.groups ≡ length (take l.wanted (filter (λ g. get_or l.self.complete g false) (range_with_len l.from (l.group - l.from))));
  earlier : All (λ n. n.0 < l.group) l.quorum;
  looks_are : l.looks ≡ l.fn.looks + (1 + most_members) * (l.group - l.from);
}
