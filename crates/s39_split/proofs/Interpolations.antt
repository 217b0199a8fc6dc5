-- What byte strings that are interpolated have to do with one another.
use Rattle.std.proofs.Common.{◌≡◌, ◌≢◌, ℕ, ◌<◌, List, [], length, get_or, slice_index, refl, sym, ◌∙◌, arith}
use Rattle.std.specs.List.{All, AllPairs}
use Rattle.std.proofs.lemmas.List.{get_or-map, length-map}
use Rattle.std.proofs.lemmas.List.Elements.{All-map}
use Rattle.s39_field.specs.FieldProduct.{byte_field}
use Rattle.s39_field.specs.Theory.Powers.{byte_field_is_field}
use Rattle.s39_lists.proofs.Pairs.{AllPairs-map}
use Rattle.s39_field.proofs.Roots.{points_have_one_value}
use Rattle.s39_field.specs.Polynomial.{value_at}
use Rattle.s39_field.specs.Interpolation.{InterpolatesBytes, points_at}
use Rattle.s39_split.specs.Shares.{AreDistinct}

-- a string that does not matter, as a default
abbrev pub none : ℕ × List ℕ
none = (0, [])

-- the string at k, at one position
point-at : (strings : List (ℕ × List ℕ)) (position k : ℕ) (d : ℕ × ℕ) → k < length strings
    → get_or (points_at strings position) k d ≡ ((get_or strings k none).0, slice_index (get_or strings k none).1 position)
point-at strings position k d lt = get_or-map (λ s. (s.0, slice_index s.1 position)) strings k none d lt

-- there are as many points as strings
length-points_at : (strings : List (ℕ × List ℕ)) (position : ℕ) → length (points_at strings position) ≡ length strings
length-points_at strings position = length-map strings (λ s. (s.0, slice_index s.1 position))

-- places that are distinct, or bytes, at the strings are so at each position
distinct_at : (strings : List (ℕ × List ℕ)) (position : ℕ) → AreDistinct strings → AllPairs (λ a b. a.0 ≢ b.0) (points_at strings position)
distinct_at strings position distinct = AllPairs-map (λ a b. a.0 ≢ b.0) (λ s. (s.0, slice_index s.1 position)) strings distinct

places_at : (strings : List (ℕ × List ℕ)) (position : ℕ) → All (λ s. s.0 < 256) strings → All (λ p. p.0 < 256) (points_at strings position)
places_at strings position places = All-map (λ p. p.0 < 256) (λ s. (s.0, slice_index s.1 position)) strings places

-- where something is interpolated, so is each of the strings, at its own place
pub interpolates_itself : (strings : List (ℕ × List ℕ)) (k x : ℕ) (y : List ℕ) → k < length strings → InterpolatesBytes strings x y
    → InterpolatesBytes strings (get_or strings k none).0 (get_or strings k none).1
interpolates_itself strings k x y in_k h = record {
  one_length = λ i d in_i. h.one_length i d in_i ∙ sym (h.one_length k none in_k);
  each = λ position below.
      let p = h.each position (omega (arith, h.one_length k none in_k)) in
      let count : length (points_at strings position) ≡ length strings = length-points_at strings position in
      record {
        coefficients = p.coefficients;
        elements = p.elements;
        no_longer = p.no_longer;
        through = p.through;
        takes = rw (point-at strings position k (0, 0) in_k) at (p.through k (0, 0) (omega arith));
      };
}

module _ (strings : List (ℕ × List ℕ)) (distinct : AreDistinct strings) (places : All (λ s. s.0 < 256) strings) where
  -- other strings that these interpolate, as many as these, interpolate what these do
  pub interpolates_by_others : (others : List (ℕ × List ℕ)) (x : ℕ) (y : List ℕ) → length others ≡ length strings
      → All (λ s. InterpolatesBytes strings s.0 s.1) others
      → InterpolatesBytes strings x y → InterpolatesBytes others x y
  interpolates_by_others others x y as_many interpolated h = record {
    one_length = λ k d in_k.
        let some : 0 < length strings = omega arith in
        sym ((interpolated k d in_k).one_length 0 none some) ∙ h.one_length 0 none some;
    each = λ position below.
        let p = h.each position below in
        let count : length (points_at others position) ≡ length others = length-points_at others position in
        let count' : length (points_at strings position) ≡ length strings = length-points_at strings position in
        record {
          coefficients = p.coefficients;
          elements = p.elements;
          no_longer = omega (arith, p.no_longer);
          through = λ k d in_k.
              let within : k < length others = omega arith in
              let some : 0 < length strings = omega arith in
              let s = get_or others k none in
              let q = interpolated k none within in
              let long : position < length s.1 = omega (arith, q.one_length 0 none some, h.one_length 0 none some) in
              rw (point-at others position k d within)
              (points_have_one_value byte_field byte_field_is_field (points_at strings position) s.0 (value_at byte_field p.coefficients s.0)
              (slice_index s.1 position)
              (places_at strings position places) (distinct_at strings position distinct)
              (record { coefficients = p.coefficients; elements = p.elements; no_longer = p.no_longer; through = p.through; takes = refl })
              (q.each position long));
          takes = p.takes;
        };
  }
