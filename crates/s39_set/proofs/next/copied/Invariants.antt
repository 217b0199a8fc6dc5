use Rattle.std.proofs.Common.{◌≡◌, ◌+◌, take}
use Rattle.s39_set.proofs.next.copied.Given as goal

abbrev pub invariant-loop-group : goal.invariant-loop-group
invariant-loop-group l = record {
  names_are : l.quorum ≡ take l.group-index l.names;
  looks_are : l.looks ≡ l.fn.looks + l.group-index;
}
