use Rattle.std.proofs.Common.{◌≡◌, take}
use Rattle.s39_split.specs.Shares.{indexed_bytes}
use Rattle.s39_split.proofs.fitting.points_of.Given as goal

abbrev pub invariant-loop-share : goal.invariant-loop-share
invariant-loop-share l = l.points ≡ indexed_bytes (take l.share-index l.known)
