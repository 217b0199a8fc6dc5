use Rattle.std.proofs.Common.{◌≡◌, ℕ, ◌+◌, ◌-◌, ◌<◌, true, false, get_or, IsTrue}
use Rattle.s39_set.specs.Steps.{HasSpareGroup}
use Rattle.s39_set.proofs.next.has_spare_group.Given as goal

abbrev pub invariant-loop-other : goal.invariant-loop-other
invariant-loop-other l = record {
  spare_is : IsTrue l.spare → HasSpareGroup l.complete l.members l.group;
  all : l.spare ≡ false → (g : ℕ) → l.group < g → g < l.other → get_or l.complete g false ≡ true → 0 < get_or l.members g 0;
  looks_are : l.looks ≡ l.fn.looks + (l.other - (l.group + 1));
}
