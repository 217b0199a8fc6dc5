use Rattle.std.proofs.Common.{Bool, map, arith, length-set}
use Rattle.s39_set.specs.ShareSet.{name_of}
use Rattle.s39_set.proofs.Inserted.{filled_more}
use Rattle.s39_set.proofs.next.shares_at_hand.Goals as goal

pub loop-slot-preserved : goal.loop-slot-preserved
loop-slot-preserved c = record {
  names_are =
      filled_more c.loop-slot.at_hand.flags (map name_of c.args.set.now) c.loop-slot.slot c.indices_at-group.result c.has.result
      c.loop-slot.invariant.names_are (omega arith) c.indices_at-group.ensures.slot c.indices_at-group.ensures.member c.has.ensures.has;
  long = omega (arith, length-set {A = Bool});
  counted = omega arith;
}
