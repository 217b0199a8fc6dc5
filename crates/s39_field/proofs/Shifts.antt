-- What the shifts of the product compute.
use Rattle.std.proofs.Common.{◌≡◌, ◌≢◌, ℕ, ◌*◌, ◌/◌, ◌%◌, ◌^◌, ◌<◌, ◌≤◌, ◌⊎◌, inl, inr, sym, ap, ◌∙◌, arith, bit_and}
use Rattle.std.proofs.Common.{bit_xor, pow_pos, pow_mono, mod-eq_of_lt, div-lt_iff_lt-mul}
use Rattle.std.proofs.Math.Nat.{div-eq_of_lt}
use Rattle.std.proofs.lemmas.Nat.{and_mask, mod_below}
use Rattle.s39_field.specs.BinaryPolynomial.{binary_sum}
use Rattle.s39_field.specs.FieldProduct.{Modulus, HasDegree, product_modulo}
use Rattle.s39_field.specs.Theory.Residues.{doubled_over, doubled_under, turn_odd, turn_even}

le_from_quotient : (x y : ℕ) → x / y ≢ 0 → y ≤ x
le_from_quotient x y some =
    elim (order x y) [
      | inl below ↦ absurd (some (div-eq_of_lt below))
      | inr le ↦ le
    ]
  where
    order : (i j : ℕ) → (i < j) ⊎ (j ≤ i)
    order i j = grind arith

module _ (m : Modulus) (is : HasDegree m) (narrow : m.degree < 16) (a : ℕ) (low : a < 2 ^ m.degree) where
  -- the shift loses no bit
  shift : a * 2 % 65536 ≡ 2 * a
  shift =
      let at_most : 2 ^ m.degree ≤ 2 ^ 15 = (let small : m.degree ≤ 15 = omega arith in pow_mono small) in
      let fits : a * 2 < 65536 = omega arith in
      mod-eq_of_lt fits ∙ omega arith

  pub shifted_under : a * 2 % 65536 / 2 ^ m.degree ≡ 0 → a * 2 % 65536 ≡ product_modulo m a 2
  shifted_under none =
      let quotient : 2 * a / 2 ^ m.degree < 1 = omega (arith, ap (λ x. x / 2 ^ m.degree) shift) in
      let under : 2 * a < 1 * 2 ^ m.degree = (div-lt_iff_lt-mul (pow_pos m.degree)).0 quotient in
      shift ∙ doubled_under m is a low (omega arith)

  pub shifted_over : a * 2 % 65536 / 2 ^ m.degree ≢ 0 → bit_xor (a * 2 % 65536) m.polynomial ≡ product_modulo m a 2
  shifted_over some =
      let over : 2 ^ m.degree ≤ 2 * a = le_from_quotient (2 * a) (2 ^ m.degree) (λ none. some (ap (λ x. x / 2 ^ m.degree) shift ∙ none)) in
      ap (λ x. bit_xor x m.polynomial) shift ∙ doubled_over m is a low over

-- one turn of the product, where the lowest coefficient of b is 1 and where it is 0
pub turn_taken : (m : Modulus)
    → HasDegree m
    → (sum a b next : ℕ)
    → a < 2 ^ m.degree
    → next ≡ product_modulo m a 2
    → bit_and b 1 ≡ 1
    → binary_sum (bit_xor sum a) (product_modulo m next (b / 2)) ≡ binary_sum sum (product_modulo m a b)
turn_taken m is sum a b next low doubles odd =
    ap (λ x. binary_sum (bit_xor sum a) (product_modulo m x (b / 2))) doubles
    ∙ turn_odd m is sum a b low (sym (and_mask b 1) ∙ odd)

pub turn_passed : (m : Modulus)
    → HasDegree m
    → (sum a b next : ℕ)
    → next ≡ product_modulo m a 2
    → bit_and b 1 ≢ 1
    → binary_sum sum (product_modulo m next (b / 2)) ≡ binary_sum sum (product_modulo m a b)
turn_passed m is sum a b next doubles even =
    let lowest = mod_below b 2 (omega arith) in
    let bit = and_mask b 1 in
    let none : b % 2 ≡ 0 = zero_from_not_one (b % 2) lowest (λ e. even (bit ∙ e)) in
    ap (λ x. binary_sum sum (product_modulo m x (b / 2))) doubles ∙ turn_even m is sum a b none
  where
    zero_from_not_one : (n : ℕ) → n < 2 → n ≢ 1 → n ≡ 0
    zero_from_not_one n small other = omega arith
