-- Why a few changed coefficients of a polynomial are always detected (SLIP-0039, "Checksum").
use Rattle.std.specs.Prelude.{◌≡◌, ◌≢◌, ℕ, ◌<◌, ◌≤◌, List, [], ◌∷◌, length, reverse, All, AllPairs}
use Rattle.s39_field.specs.Field.{Operations}
use Rattle.s39_field.specs.FieldProduct.{word_field, nonzero_words}
use Rattle.s39_field.specs.Polynomial.{power, value_at, product_of, IsMultiple}

module _ {F : Type 0} (f : Operations F) where
  -- the sum of value times the n-th power of the place, over points; a point is a place and a value
  abbrev pub power_sum : List (F × F) → ℕ → F
  power_sum [] n = f.zero
  power_sum (point ∷ points) n = f.add (f.mul point.1 (power f point.0 n)) (power_sum points n)

  -- values at distinct nonzero places are all zero if their sums with the powers of the places are zero:
  -- with the first powers, the second, and so on, up to the number of points
  abbrev pub PowerSumsDetermineValues : Type 0
  PowerSumsDetermineValues =
      (points : List (F × F))
      → All (λ point. f.IsElement point.0) points
      → All (λ point. f.IsElement point.1) points
      → AllPairs (λ p q. p.0 ≢ q.0) points
      → All (λ point. point.0 ≢ f.zero) points
      → ((n : ℕ) → 0 < n → n ≤ length points → power_sum points n ≡ f.zero)
      → All (λ point. point.1 ≡ f.zero) points

  -- the value of a product of polynomials is the product of their values
  abbrev pub ValuesMultiply : Type 0
  ValuesMultiply =
      (q g : List F) (x : F)
      → All f.IsElement q
      → value_at f (product_of f q g) x ≡ f.mul (value_at f q x) (value_at f g x)

  -- the same for coefficients that are read from the highest power down
  abbrev pub ReversedValuesMultiply : Type 0
  ReversedValuesMultiply =
      (q g : List F) (x : F)
      → All f.IsElement q
      → f.IsElement x
      → value_at f (reverse (product_of f q g)) x
      ≡ f.mul (value_at f (reverse q) x) (value_at f (reverse g) x)

  -- a multiple of g is zero wherever g is
  abbrev pub MultiplesKeepRoots : Type 0
  MultiplesKeepRoots =
      (xs g : List F) (x : F)
      → IsMultiple f xs g
      → value_at f g x ≡ f.zero
      → value_at f xs x ≡ f.zero

  -- the same for coefficients that are read from the highest power down
  abbrev pub ReversedMultiplesKeepRoots : Type 0
  ReversedMultiplesKeepRoots =
      (xs g : List F) (x : F)
      → f.IsElement x
      → IsMultiple f xs g
      → value_at f (reverse g) x ≡ f.zero
      → value_at f (reverse xs) x ≡ f.zero

-- the powers of 2 in the word field with exponents below the number of nonzero words are distinct
abbrev pub PowersOfTwoAreDistinct : Type 0
PowersOfTwoAreDistinct =
    (i j : ℕ) → i < j → j < nonzero_words → power word_field 2 i ≢ power word_field 2 j
