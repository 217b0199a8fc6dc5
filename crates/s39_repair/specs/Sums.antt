-- Lost words of a mnemonic, from sums of coefficients times powers of their places. Of the public contracts, only a law cites `ArePlaces`
-- and `AgreeElsewhere`, and none cites the others.
use Rattle.std.specs.Prelude.{◌≡◌, ◌≢◌, ℕ, ◌+◌, ◌≤◌, List, ◌∷◌, Bool, length, slice_index}
use Rattle.s39_field.specs.Field.{Operations}
use Rattle.s39_field.specs.FieldProduct.{word_field}
use Rattle.s39_field.specs.Polynomial.{power, value_at}
use Rattle.s39_words.specs.Checksum.{customization_string, checked_polynomial}
use Rattle.s39_words.specs.Layout.{most_words}

-- the inverse of 2 in the field of the checksum
abbrev pub half : ℕ
half = 516

-- the power of a half that belongs to the coefficient of a word
abbrev pub locator : Bool → ℕ → ℕ
locator extendable place = power word_field half (length (1 ∷ customization_string extendable) + place)

-- the value of the polynomial with these words at a power of a half
abbrev pub sum_with : Bool → List ℕ → ℕ → ℕ
sum_with extendable words n = value_at word_field (checked_polynomial extendable words) (power word_field half n)

-- the value at x, of which the sums with the first three powers are these; the other two places are y and z
abbrev pub value_of_sums : {F : Type 0} → Operations F → F → F → F → F → F → F → F
value_of_sums f s₁ s₂ s₃ x y z =
    let t₁ = f.add s₂ (f.mul y s₁) in
    let t₂ = f.add s₃ (f.mul y s₂) in
    f.mul (f.add t₂ (f.mul z t₁)) (f.inv (f.mul (f.mul (f.add x y) (f.add x z)) x))

-- three different places, of words or behind them
pub record ArePlaces (i j k : ℕ) : Type 0 where
  pub first_second : i ≢ j
  pub first_third : i ≢ k
  pub second_third : j ≢ k
  pub first_in_range : i ≤ most_words + 3
  pub second_in_range : j ≤ most_words + 3
  pub third_in_range : k ≤ most_words + 3

-- two lists of as many words that agree but at three places
pub record AgreeElsewhere (words others : List ℕ) (i j k : ℕ) : Type 0 where
  pub same_count : length words ≡ length others
  pub elsewhere : (p : ℕ) → p ≢ i → p ≢ j → p ≢ k → slice_index words p ≡ slice_index others p
