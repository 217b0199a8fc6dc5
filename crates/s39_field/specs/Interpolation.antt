-- Interpolation (SLIP-0039, "Shamir's secret sharing"): the one polynomial through given points.
use Rattle.std.specs.Prelude.{◌≡◌, ◌≢◌, ℕ, ◌<◌, ◌≤◌, List, [], ◌∷◌, length, map, remove, zip}
use Rattle.std.specs.Prelude.{All, AllPairs, slice_index, slice_index_or}
use Rattle.std.specs.List.{range_with_len}
use Rattle.s39_field.specs.Field.{Operations}
use Rattle.s39_field.specs.FieldProduct.{byte_field}
use Rattle.s39_field.specs.Polynomial.{value_at, sum_of}

-- Some polynomial with no more coefficients than there are points takes each point's value at its
-- place, and takes y at x. A point is a place and a value.
pub record Interpolates {F : Type 0} (f : Operations F) (points : List (F × F)) (x y : F)
    : Type 0 where
  pub coefficients : List F
  pub elements : All f.IsElement coefficients
  pub no_longer : length coefficients ≤ length points
  pub through : All (λ point. value_at f coefficients point.0 ≡ point.1) points
  pub takes : value_at f coefficients x ≡ y

-- the points that byte strings make at one position
abbrev pub points_at : List (ℕ × List ℕ) → ℕ → List (ℕ × ℕ)
points_at strings position = map (λ string. (string.0, slice_index string.1 position)) strings

-- the same for byte strings of one length, at each position
pub record InterpolatesBytes (strings : List (ℕ × List ℕ)) (x : ℕ) (y : List ℕ) : Type 0 where
  pub one_length : All (λ string. length string.1 ≡ length y) strings
  pub each : (position : ℕ)
      → position < length y
      → Interpolates byte_field (points_at strings position) x (slice_index y position)

module _ {F : Type 0} (f : Operations F) where
  -- the product of x - place over the places
  abbrev pub differences : F → List F → F
  differences x [] = f.one
  differences x (place ∷ places) = f.mul (f.add x place) (differences x places)

  -- the Lagrange weight of place i at x: the product over the other places of
  -- (x - place) / (place i - place)
  abbrev pub weight : List F → F → ℕ → F
  weight places x i =
      let others = remove places i in
      f.mul (differences x others) (f.inv (differences (slice_index_or places i f.zero) others))

  -- the Lagrange weight of each place at x
  abbrev pub weights_of : List F → F → List F
  weights_of places x = map (weight places x) (range_with_len 0 (length places))

  -- the sum of weight times value
  abbrev pub weighted_sum : List F → List F → F
  weighted_sum [] values = f.zero
  weighted_sum (w ∷ ws) [] = f.zero
  weighted_sum (w ∷ ws) (value ∷ values) = f.add (f.mul w value) (weighted_sum ws values)

  -- this holds for any two polynomials that have no more coefficients than there are distinct places and
  -- are equal at each place
  abbrev pub PlacesDetermine : (List F → List F → Type 0) → Type 0
  PlacesDetermine Holds =
      (places cs ds : List F)
      → All f.IsElement places
      → All f.IsElement cs
      → All f.IsElement ds
      → AllPairs (λ p q. p ≢ q) places
      → length cs ≤ length places
      → length ds ≤ length places
      → All (λ p. value_at f cs p ≡ value_at f ds p) places
      → Holds cs ds

  -- they differ at most in zeros at the ends of their lists: each coefficient of their difference is
  -- zero
  abbrev pub PlacesDetermineCoefficients : Type 0
  PlacesDetermineCoefficients = PlacesDetermine (λ cs ds. All (λ c. c ≡ f.zero) (sum_of f cs ds))

  -- so they are equal everywhere
  abbrev pub PlacesDetermineValues : Type 0
  PlacesDetermineValues = PlacesDetermine (λ cs ds. (x : F) → value_at f cs x ≡ value_at f ds x)

  -- points at distinct places have at most one value at x
  abbrev pub PointsHaveOneValue : Type 0
  PointsHaveOneValue =
      (points : List (F × F)) (x y z : F)
      → All (λ point. f.IsElement point.0) points
      → AllPairs (λ p q. p.0 ≢ q.0) points
      → Interpolates f points x y
      → Interpolates f points x z
      → y ≡ z

  -- points at distinct places have a value at x, the sum of Lagrange weight times value
  abbrev pub WeightsInterpolate : Type 0
  WeightsInterpolate =
      (places values : List F) (x : F)
      → All f.IsElement places
      → All f.IsElement values
      → AllPairs (λ p q. p ≢ q) places
      → length values ≡ length places
      → Interpolates f (zip places values) x (weighted_sum (weights_of places x) values)

-- the byte string of this length that byte strings have at x: at each position, the sum of Lagrange weight times byte
abbrev pub interpolated_bytes : List (ℕ × List ℕ) → ℕ → ℕ → List ℕ
interpolated_bytes strings x count =
    map
    (λ position. weighted_sum byte_field (weights_of byte_field (map (λ string. string.0) strings) x)
    (map (λ string. slice_index string.1 position) strings))
    (range_with_len 0 count)

-- byte strings of one length at distinct places have this byte string at x
abbrev pub StringsHaveAValue : Type 0
StringsHaveAValue =
    (strings : List (ℕ × List ℕ)) (x count : ℕ)
    → All (λ string. byte_field.IsElement string.0) strings
    → All (λ string. All byte_field.IsElement string.1) strings
    → All (λ string. length string.1 ≡ count) strings
    → AllPairs (λ p q. p.0 ≢ q.0) strings
    → (length (interpolated_bytes strings x count) ≡ count)
    × All byte_field.IsElement (interpolated_bytes strings x count)
    × InterpolatesBytes strings x (interpolated_bytes strings x count)

-- and no other, if there is at least one of them
abbrev pub StringsHaveOneValue : Type 0
StringsHaveOneValue =
    (strings : List (ℕ × List ℕ)) (x : ℕ) (y z : List ℕ)
    → 0 < length strings
    → All (λ string. byte_field.IsElement string.0) strings
    → AllPairs (λ p q. p.0 ≢ q.0) strings
    → InterpolatesBytes strings x y
    → InterpolatesBytes strings x z
    → y ≡ z
