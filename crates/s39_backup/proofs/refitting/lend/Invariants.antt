use Rattle.std.proofs.Common.{◌≡◌, take}
use Rattle.s39_split.specs.Shares.{bytes_of}
use Rattle.s39_backup.proofs.Chosen.{lent}
use Rattle.s39_backup.proofs.refitting.lend.Given as goal

abbrev pub invariant-loop-index : goal.invariant-loop-index
invariant-loop-index l = l.known ≡ lent (bytes_of l.shares) (take l.index-index l.indices)
