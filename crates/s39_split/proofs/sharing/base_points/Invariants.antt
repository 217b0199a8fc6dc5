use Rattle.std.proofs.Common.{◌≡◌, take}
use Rattle.std.specs.List.{enumerate_from}
use Rattle.s39_split.specs.Shares.{bytes_of}
use Rattle.s39_split.proofs.sharing.base_points.Given as goal

abbrev pub invariant-loop-i : goal.invariant-loop-i
invariant-loop-i l = l.points ≡ enumerate_from 0 (bytes_of (take l.i l.random_shares))
