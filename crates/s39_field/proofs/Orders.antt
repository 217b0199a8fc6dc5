-- The powers of 2 in the word field are distinct below the exponent at which they come back to 1.
use Rattle.std.proofs.Common.{◌≡◌, ◌≢◌, ℕ, ◌+◌, ◌-◌, ◌<◌, true, false, eqb, List, length, get_or, map, refl, sym, ap, ◌∙◌, arith}
use Rattle.std.proofs.lemmas.Bool.{false≢true}
use Rattle.std.proofs.lemmas.List.{get_or-map}
use Rattle.s39_field.specs.FieldProduct.{word_field, word_modulus, power_modulo, nonzero_words}
use Rattle.s39_field.specs.Polynomial.{power}
use Rattle.s39_field.specs.PowerSums.{PowersOfTwoAreDistinct}
use Rattle.s39_field.specs.Theory.Powers.{word_degree, word_field_is_field, word_generator, field_power, power-first}
use Rattle.s39_field.specs.Theory.Powers.{power_listed, powers_from}
use Rattle.s39_field.proofs.FieldPowers.{power-element, power-nonzero, powers_apart}

-- no power of 2 from the first on is 1, until they come back to it
abbrev powers : List ℕ
powers = powers_from word_modulus 2 (nonzero_words - 1) 2

none_is_one : map (λ p. eqb p 1) powers ≡ map (λ p. false) powers
none_is_one = refl

length-powers : length powers ≡ nonzero_words - 1
length-powers = refl

not_one : (n : ℕ) → 0 < n → n < nonzero_words → power word_field 2 n ≢ 1
not_one n from below is_one =
    let index : n - 1 < length powers = omega (arith, length-powers) in
    let listed : get_or powers (n - 1) 0 ≡ 1 =
    ap (λ a. get_or (powers_from word_modulus 2 (nonzero_words - 1) a) (n - 1) 0) (sym (power-first word_modulus word_degree 2 (omega arith)))
    ∙ power_listed word_modulus word_degree 2 word_generator.small (nonzero_words - 1) 1 (n - 1) 0 (omega arith)
    ∙ ap (power_modulo word_modulus 2) (omega arith)
    ∙ sym (field_power word_modulus 2 n)
    ∙ is_one in
    false≢true
    (sym (get_or-map (λ p. false) powers (n - 1) 0 true index)
    ∙ sym (ap (λ tests. get_or tests (n - 1) true) none_is_one)
    ∙ get_or-map (λ p. eqb p 1) powers (n - 1) 0 true index
    ∙ ap (λ p. eqb p 1) listed)

pub power_of_two-element : (n : ℕ) → word_field.IsElement (power word_field 2 n)
power_of_two-element n = power-element word_field word_field_is_field 2 n (omega arith)

pub power_of_two-nonzero : (n : ℕ) → power word_field 2 n ≢ 0
power_of_two-nonzero n = power-nonzero word_field word_field_is_field 2 n (omega arith) (omega arith)

pub powers_of_two_are_distinct : PowersOfTwoAreDistinct
powers_of_two_are_distinct i j before below same =
    let exponent : j ≡ i + (j - i) = omega arith in
    powers_apart word_field word_field_is_field 2 i (j - i) (omega arith) (omega arith)
    (not_one (j - i) (omega arith) (omega arith))
    (same ∙ ap (power word_field 2) exponent)
