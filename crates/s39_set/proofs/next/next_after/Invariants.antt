use Rattle.std.proofs.Common.{◌≡◌, ◌+◌, ◌*◌, ◌<◌, ◌≤◌, ℕ, length, drop, sum_by}
use Rattle.s39_set.specs.ShareSet.{IsShareSet}
use Rattle.s39_set.specs.Quorums.{IsQuorum}
use Rattle.s39_set.specs.Looks.{test_looks, context_looks, place_looks}
use Rattle.s39_set.proofs.StepOf.{IsFullAt}
use Rattle.s39_set.proofs.next.next_after.Given as goal

abbrev pub invariant-loop-position : goal.invariant-loop-position
invariant-loop-position l = record {
  full : (is : IsShareSet l.set) (quorum : IsQuorum l.set l.names) (j : ℕ) → l.position ≤ j → j < length l.names → IsFullAt l.set is l.names quorum j;
  upto : l.position ≤ length l.names;
  looks_are : l.looks ≡ l.fn.looks + test_looks l.names + context_looks l.names + sum_by place_looks (drop l.position l.names);
  at_most : l.looks + 31 * l.position ≤ l.fn.looks + 10016;
}
