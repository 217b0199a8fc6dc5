use Rattle.std.proofs.Common.{◌≡◌, ℕ, ◌+◌, ◌-◌, ◌<◌, false, IsTrue}
use Rattle.s39_set.specs.Masks.{is_in}
use Rattle.s39_set.specs.Steps.{HasSpareMember}
use Rattle.s39_set.proofs.next.has_spare_member.Given as goal

abbrev pub invariant-loop-other : goal.invariant-loop-other
invariant-loop-other l = record {
  spare_is : IsTrue l.spare → HasSpareMember l.at_hand l.chosen (l.group, l.member);
  all : l.spare ≡ false → (m : ℕ) → l.member < m → m < l.other → IsTrue (is_in l.at_hand l.group m) → IsTrue (is_in l.chosen l.group m);
  looks_are : l.looks ≡ l.fn.looks + (l.other - (l.member + 1));
}
