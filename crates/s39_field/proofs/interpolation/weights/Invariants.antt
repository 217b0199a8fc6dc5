use Rattle.std.proofs.Common.{◌≡◌, ℕ, ◌<◌, get_or, All}
use Rattle.s39_field.specs.FieldProduct.{byte_field}
use Rattle.s39_field.specs.Interpolation.{weight}
use Rattle.s39_field.proofs.interpolation.weights.Given as goal

-- the weights so far, and what the products told of the places
abbrev pub invariant-loop-i : goal.invariant-loop-i
invariant-loop-i l = record {
  filled : (k : ℕ) → k < l.i → get_or l.out k 0 ≡ weight byte_field l.xs l.at k;
  elements : 0 < l.i → All (λ place. place < 256) l.xs;
}
