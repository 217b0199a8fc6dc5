use Rattle.std.proofs.Common.{◌≡◌, ◌+◌, ◌-◌, ◌++◌, length, map, filter, take}
use Rattle.std.specs.List.{range_with_len}
use Rattle.s39_set.specs.Masks.{is_in}
use Rattle.s39_set.proofs.next.push_members.Given as goal

abbrev pub invariant-loop-member : goal.invariant-loop-member
invariant-loop-member l = record {
  names_are : l.quorum ≡ l.fn.quorum ++ map (λ member. (l.group, member))
      (take l.wanted (filter (is_in l.masks l.group) (range_with_len l.from (l.member - l.from))));
  members_are : l.members ≡ length (take l.wanted (filter (is_in l.masks l.group) (range_with_len l.from (l.member - l.from))));
  looks_are : l.looks ≡ l.fn.looks + (l.member - l.from);
}
