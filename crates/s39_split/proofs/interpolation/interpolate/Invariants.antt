use Rattle.std.proofs.Common.{◌≡◌, ℕ, ◌<◌, length, take, slice_index}
use Rattle.std.specs.List.{All}
use Rattle.s39_field.specs.FieldProduct.{byte_field}
use Rattle.s39_field.specs.Interpolation.{weighted_sum}
use Rattle.s39_kdf.specs.Bytes.{AreBytes}
use Rattle.s39_split.proofs.Columns.{column}
use Rattle.s39_split.proofs.interpolation.interpolate.Given as goal

abbrev pub invariant-loop-i : goal.invariant-loop-i
invariant-loop-i l = record {
  long : length l.value.items ≡ length l.initial.value.items;
  bytes : All (λ p. AreBytes p.1.now.items) (take l.i l.points);
  sums : (k : ℕ) → k < length l.value.items → slice_index l.value.items k ≡ weighted_sum byte_field (take l.i l.weights) (take l.i (column k l.points));
}
