use Rattle.std.proofs.Common.{◌≡◌, length, take, map}
use Rattle.s39_split.specs.Sharing.{most_shares}
use Rattle.s39_split.proofs.interpolation.weights_at.Given as goal

abbrev pub invariant-loop-i : goal.invariant-loop-i
invariant-loop-i l = (length l.places ≡ most_shares) × (take l.i l.places ≡ map (λ p. p.0) (take l.i l.points))
