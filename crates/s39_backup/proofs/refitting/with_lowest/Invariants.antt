use Rattle.s39_backup.proofs.Chosen.{AreChosen}
use Rattle.s39_backup.proofs.refitting.with_lowest.Given as goal

abbrev pub invariant-loop-index : goal.invariant-loop-index
invariant-loop-index l = AreChosen l.kept l.number l.index l.next l.others l.indices.items
