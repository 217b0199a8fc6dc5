-- Byte strings position by position, and their weighted sums.
use Rattle.std.proofs.Common.{◌≡◌, ℕ, ◌+◌, ◌<◌, List, [], ◌∷◌, length, get_or, take, map, slice_index, refl, sym, ap, ap₂, ◌∙◌, arith, bit_xor}
use Rattle.std.specs.Borrow.{Bor}
use Rattle.std.specs.List.{All, zip}
use Rattle.std.proofs.lemmas.List.{length-map, get_or-map}
use Rattle.std.proofs.lemmas.List.Elements.{All-map}
use Rattle.arrayvec.specs.ArrayVec.{ArrayVec}
use Rattle.s39_field.specs.FieldProduct.{byte_field, byte_modulus, product_modulo}
use Rattle.s39_field.specs.Interpolation.{Interpolates, InterpolatesBytes, points_at, weighted_sum}
use Rattle.s39_field.specs.Theory.Powers.{byte_field_is_field}
use Rattle.s39_field.proofs.Strings.{weighted_sum-more}
use Rattle.s39_kdf.specs.Bytes.{AreBytes}
use Rattle.s39_split.specs.Shares.{indexed_bytes}
use Rattle.s39_lists.proofs.Pairs.{All-from_map}

-- the bytes of the points' strings at one position
abbrev pub column : ℕ → List (ℕ × Bor (ArrayVec ℕ)) → List ℕ
column k points = map (λ point. slice_index point.1.now.items k) points

-- one more row is added
pub sum_more : (ws : List ℕ) (points : List (ℕ × Bor (ArrayVec ℕ))) (i : ℕ) (point : ℕ × Bor (ArrayVec ℕ)) (d k old new : ℕ)
    → i < length ws → i < length points → point ≡ get_or points i point
    → old ≡ weighted_sum byte_field (take i ws) (take i (column k points))
    → new ≡ bit_xor old (product_modulo byte_modulus (get_or ws i d) (slice_index point.1.now.items k))
    → new ≡ weighted_sum byte_field (take (i + 1) ws) (take (i + 1) (column k points))
sum_more ws points i point d k old new in_ws in_points is before here =
    let count : length (column k points) ≡ length points = length-map points (λ p. slice_index p.1.now.items k) in
    let value : get_or (column k points) i 0 ≡ slice_index point.1.now.items k =
    get_or-map (λ p. slice_index p.1.now.items k) points i point 0 in_points
    ∙ ap (λ (p : ℕ × Bor (ArrayVec ℕ)). slice_index p.1.now.items k) (sym is) in
    here ∙ ap₂ (λ x y. bit_xor x (product_modulo byte_modulus (get_or ws i d) y)) before (sym value)
    ∙ sym (weighted_sum-more byte_field byte_field_is_field ws (column k points) i d 0 in_ws (omega arith))

-- the points at one position
zip_column : (points : List (ℕ × Bor (ArrayVec ℕ))) (k : ℕ) → zip (map (λ p. p.0) points) (column k points) ≡ points_at (indexed_bytes points) k
zip_column [] k = refl
zip_column (p ∷ ps) k = ap (λ rest. (p.0, slice_index p.1.now.items k) ∷ rest) (zip_column ps k)

-- the weighted sums of rows are interpolated
pub sums_interpolate : (points : List (ℕ × Bor (ArrayVec ℕ))) (place : ℕ) (ws value : List ℕ)
    → ((values : List ℕ) → AreBytes values → length values ≡ length points
    → Interpolates byte_field (zip (map (λ p. p.0) points) values) place (weighted_sum byte_field ws values))
    → All (λ p. length p.1.now.items ≡ length value) points
    → All (λ p. AreBytes p.1.now.items) points
    → ((k : ℕ) → k < length value → slice_index value k ≡ weighted_sum byte_field ws (column k points))
    → InterpolatesBytes (indexed_bytes points) place value
sums_interpolate points place ws value weights one_length bytes sums = record {
  one_length = All-map (λ s. length s.1 ≡ length value) (λ p. (p.0, p.1.now.items)) points one_length;
  each = λ position below.
      let h = weights (column position points)
      (All-map (λ y. y < 256) (λ p. slice_index p.1.now.items position) points
      (λ k d within. bytes k d within position 0 (let long = one_length k d within in omega arith)))
      (length-map points (λ p. slice_index p.1.now.items position)) in
      rw (sums position below, ← zip_column points position) h;
}

-- rows have the length that their bytes have
pub all_rows : (points : List (ℕ × Bor (ArrayVec ℕ))) (n : ℕ) → All (λ s. length s.1 ≡ n) (indexed_bytes points)
    → All (λ p. length p.1.now.items ≡ n) points
all_rows points n rows = All-from_map {Y = ℕ × List ℕ} (λ s. length s.1 ≡ n) (λ p. (p.0, p.1.now.items)) points rows

-- rows of bytes
pub AreBytes-rows : (points : List (ℕ × Bor (ArrayVec ℕ))) → All (λ p. AreBytes p.1.now.items) points
    → All (λ s. AreBytes s.1) (indexed_bytes points)
AreBytes-rows points bytes =
    All-map (λ (s : ℕ × List ℕ). AreBytes s.1) (λ (p : ℕ × Bor (ArrayVec ℕ)). (p.0, p.1.now.items)) points bytes

-- a row has the length that all have
pub length-row : (points : List (ℕ × Bor (ArrayVec ℕ))) (n i : ℕ) (point : ℕ × Bor (ArrayVec ℕ)) → All (λ p. length p.1.now.items ≡ n) points
    → i < length points → point ≡ get_or points i point → length point.1.now.items ≡ n
length-row points n i point one_length within is =
    ap (λ (p : ℕ × Bor (ArrayVec ℕ)). length p.1.now.items) is ∙ one_length i point within

-- the length that all strings have, and the length that they have in the end, are one
pub same_length : (strings : List (ℕ × List ℕ)) (n m : ℕ) → 0 < length strings → All (λ s. length s.1 ≡ m) strings
    → All (λ s. length s.1 ≡ n) strings → n ≡ m
same_length strings n m some one other = sym (other 0 (0, []) some) ∙ one 0 (0, []) some
