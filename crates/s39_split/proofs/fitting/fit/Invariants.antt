use Rattle.std.proofs.Common.{◌<◌}
use Rattle.std.specs.List.{All}
use Rattle.s39_kdf.specs.Bytes.{AreBytes}
use Rattle.s39_split.specs.Shares.{indexed_bytes}
use Rattle.s39_split.proofs.FittedPoints.{AreFitted}
use Rattle.s39_split.proofs.fitting.fit.Given as goal

abbrev pub invariant-loop-place : goal.invariant-loop-place
invariant-loop-place l = record {
  fitted : AreFitted (indexed_bytes l.points) l.r l.place l.random.items;
  bytes : 0 < l.place → All (λ p. AreBytes p.1) (indexed_bytes l.points);
}
