use Rattle.std.proofs.Common.{◌≡◌, ℕ, ◌+◌, ◌*◌, ◌<◌, ◌↔◌, map, get_or, Contains, IsTrue}
use Rattle.s39_set.specs.ShareSet.{name_of}
use Rattle.s39_set.proofs.quorum.are_at_hand.Given as goal

abbrev pub invariant-loop-group : goal.invariant-loop-group
invariant-loop-group l = record {
  at_hand : IsTrue l.all ↔ ((k : ℕ) → k < l.group-index → Contains (map name_of l.set) (get_or l.names k (0, 0)));
  looks_are : l.looks ≡ l.fn.looks + 2 * l.group-index;
}
