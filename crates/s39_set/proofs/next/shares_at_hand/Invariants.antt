use Rattle.std.proofs.Common.{◌≡◌, ◌+◌, ◌*◌, length, map}
use Rattle.s39_set.specs.Names.{most_names}
use Rattle.s39_set.specs.ShareSet.{name_of}
use Rattle.s39_set.proofs.Inserted.{AreFilled}
use Rattle.s39_set.proofs.next.shares_at_hand.Given as goal

abbrev pub invariant-loop-slot : goal.invariant-loop-slot
invariant-loop-slot l = record {
  names_are : AreFilled l.at_hand.flags (map name_of l.set) l.slot;
  long : length l.at_hand.flags ≡ most_names;
  counted : l.looks ≡ l.fn.looks + 2 * l.slot;
}
