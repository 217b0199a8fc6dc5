-- Interpolation of byte strings, and the weighted sums that a loop over rows makes.
use Rattle.std.proofs.Common.{◌≡◌, ◌≢◌, ℕ, zero, suc, ◌+◌, ◌<◌, List, [], ◌∷◌, length, map, zip, get_or, take}
use Rattle.std.proofs.Common.{slice_index, refl, sym, ap, ◌∙◌, subst, subst₂, arith, add-one}
use Rattle.std.proofs.lemmas.List.{ext_get_or, length-map}
use Rattle.std.proofs.lemmas.List.Elements.{All-map}
use Rattle.std.proofs.lemmas.List.FromFn.{length-map-range_with_len, get_or-map-range_with_len}
use Rattle.std.specs.List.{range_with_len}
use Rattle.s39_field.specs.Field.{Operations, IsField}
use Rattle.s39_field.specs.FieldProduct.{byte_field, byte_modulus}
use Rattle.s39_field.specs.Interpolation.{Interpolates, points_at, weights_of, weighted_sum}
use Rattle.s39_field.specs.Interpolation.{interpolated_bytes, StringsHaveAValue, StringsHaveOneValue}
use Rattle.s39_lists.proofs.Pairs.{AllPairs-map}
use Rattle.s39_field.specs.Theory.Powers.{byte_degree, byte_field_is_field}
use Rattle.s39_field.specs.Theory.Residues.{product_modulo-lt}
use Rattle.s39_field.proofs.Roots.{points_have_one_value}
use Rattle.s39_field.proofs.LagrangeWeights.{weights_interpolate}

zip-maps : {X Y Z : Type 0} (g : X → Y) (h : X → Z) (xs : List X)
    → map (λ x. (g x, h x)) xs ≡ zip (map g xs) (map h xs)
zip-maps g h [] = refl
zip-maps g h (x ∷ xs) = ap (λ ps. (g x, h x) ∷ ps) (zip-maps g h xs)

weighted_sum-byte : (ws values : List ℕ) → byte_field.IsElement (weighted_sum byte_field ws values)
weighted_sum-byte [] values = byte_field_is_field.zero_element
weighted_sum-byte (w ∷ ws) [] = byte_field_is_field.zero_element
weighted_sum-byte (w ∷ ws) (value ∷ values) =
    byte_field_is_field.add_element (byte_field.mul w value) (weighted_sum byte_field ws values)
    (product_modulo-lt byte_modulus byte_degree w value)
    (weighted_sum-byte ws values)

-- byte strings of one length at distinct places have their byte string at x
pub strings_have_a_value : StringsHaveAValue
strings_have_a_value strings x count elements bytes lengths distinct =
    let place : ℕ × List ℕ → ℕ = λ string. string.0 in
    let byte_of : ℕ → ℕ × List ℕ → ℕ = λ position string. slice_index string.1 position in
    let places : List ℕ = map place strings in
    let byte_at : ℕ → ℕ =
    λ position. weighted_sum byte_field (weights_of byte_field places x) (map (byte_of position) strings) in
    let size : length (interpolated_bytes strings x count) ≡ count = length-map-range_with_len byte_at 0 count in (
      size,
      All-map byte_field.IsElement byte_at (range_with_len 0 count)
          (λ k d below. weighted_sum-byte (weights_of byte_field places x) (map (byte_of (get_or (range_with_len 0 count) k d)) strings)),
      record {
        one_length = λ k d below. lengths k d below ∙ sym size;
        each = λ position below.
            let within : position < count = omega arith in
            subst₂ (λ points byte. Interpolates byte_field points x byte)
            (sym (zip-maps place (byte_of position) strings))
            (sym (get_or-map-range_with_len byte_at 0 count position position 0 within (omega arith)))
            (weights_interpolate byte_field byte_field_is_field places (map (byte_of position) strings) x
            (All-map byte_field.IsElement place strings elements)
            (All-map byte_field.IsElement (byte_of position) strings
            (λ k d inside. bytes k d inside position 0 (omega (arith, lengths k d inside))))
            (AllPairs-map (λ p q. p ≢ q) place strings distinct)
            (length-map strings (byte_of position) ∙ sym (length-map strings place)));
      },
    )

-- where there is at least one of them, they have no other
pub strings_have_one_value : StringsHaveOneValue
strings_have_one_value strings x y z some bytes distinct h k =
    let lengths : length y ≡ length z = sym (h.one_length 0 (0, []) some) ∙ k.one_length 0 (0, []) some in
    ext_get_or 0 y z lengths
    (λ position below.
    let point : ℕ × List ℕ → ℕ × ℕ = λ string. (string.0, slice_index string.1 position) in
    points_have_one_value byte_field byte_field_is_field (points_at strings position) x (slice_index y position) (slice_index z position)
    (All-map (λ p. p.0 < 256) point strings bytes)
    (AllPairs-map (λ p q. p.0 ≢ q.0) point strings distinct)
    (h.each position below)
    (k.each position (subst (λ n. position < n) lengths below)))

module _ {F : Type 0} (f : Operations F) (is : IsField f) where
  sum-next : (ws values : List F) (k : ℕ) (d e : F)
      → k < length ws
      → k < length values
      → weighted_sum f (take (suc k) ws) (take (suc k) values) ≡ f.add (weighted_sum f (take k ws) (take k values)) (f.mul (get_or ws k d) (get_or values k e))
  sum-next [] values k d e p q = absurd (omega arith)
  sum-next (w ∷ ws) [] k d e p q = absurd (omega arith)
  sum-next (w ∷ ws) (v ∷ vs) zero d e p q = is.add_commutes (f.mul w v) f.zero
  sum-next (w ∷ ws) (v ∷ vs) (suc k) d e p q =
      ap (f.add (f.mul w v)) (sum-next ws vs k d e (omega arith) (omega arith))
      ∙ sym (is.add_associates (f.mul w v) (weighted_sum f (take k ws) (take k vs)) (f.mul (get_or ws k d) (get_or vs k e)))

  -- one weight and value more
  pub weighted_sum-more : (ws values : List F) (k : ℕ) (d e : F)
      → k < length ws
      → k < length values
      → weighted_sum f (take (k + 1) ws) (take (k + 1) values) ≡ f.add (weighted_sum f (take k ws) (take k values)) (f.mul (get_or ws k d) (get_or values k e))
  weighted_sum-more ws values k d e p q =
      ap (λ n. weighted_sum f (take n ws) (take n values)) (add-one k) ∙ sum-next ws values k d e p q
