use Rattle.std.proofs.Common.{◌≡◌, ◌+◌, take}
use Rattle.s39_set.specs.Steps.{AreMasksOf}
use Rattle.s39_set.proofs.next.masks_of.Given as goal

abbrev pub invariant-loop-group : goal.invariant-loop-group
invariant-loop-group l = record {
  masks_are : AreMasksOf l.masks (take l.group-index l.names);
  looks_are : l.looks ≡ l.fn.looks + l.group-index;
}
