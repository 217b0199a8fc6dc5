-- The tables of powers of 3 and of logarithms.
use Rattle.std.proofs.Common.{◌≡◌, ◌≢◌, ℕ, ◌+◌, ◌-◌, ◌<◌, ◌≤◌, true, ltb, ltb-true, map, length, get_or, refl, sym, ap, ap₂, ◌∙◌, subst, arith}
use Rattle.std.proofs.lemmas.List.{get_or-map}
use Rattle.std.proofs.lemmas.List.FromFn.{get_or-range_with_len}
use Rattle.std.specs.List.{range_with_len}
use Rattle.s39_field.specs.FieldProduct.{byte_field, byte_modulus, power_modulo, nonzero_bytes}
use Rattle.s39_field.specs.Polynomial.{power}
use Rattle.s39_field.specs.Theory.Powers.{byte_degree, byte_field_is_field, byte_generator, field_power, power-add}
use Rattle.s39_field.specs.Theory.Powers.{power-lt, power-none, power_listed, order, powers_from}
use Rattle.s39_field.specs.Theory.Residues.{product_modulo-one, product_modulo-zero, product_modulo_commutes}
use Rattle.s39_field.specs.declared.logarithms.TheConstants.{POWERS, LOGARITHMS}

-- ---- by computation

pub length-powers : length POWERS ≡ nonzero_bytes
length-powers = refl

pub length-logarithms : length LOGARITHMS ≡ nonzero_bytes
length-logarithms = refl

powers_are : POWERS ≡ powers_from byte_modulus 3 nonzero_bytes 1
powers_are = refl

powers_of_logarithms : map (λ l. get_or POWERS l 0) LOGARITHMS ≡ range_with_len 1 nonzero_bytes
powers_of_logarithms = refl

logarithms_of_powers : map (λ p. get_or LOGARITHMS (p - 1) 0) POWERS ≡ range_with_len 0 nonzero_bytes
logarithms_of_powers = refl

logarithms_below : map (λ l. ltb l nonzero_bytes) LOGARITHMS ≡ map (λ l. true) LOGARITHMS
logarithms_below = refl

-- ---- what the entries are

pub power_at : (i d : ℕ) → i < nonzero_bytes → get_or POWERS i d ≡ power byte_field 3 i
power_at i d below =
    ap (λ l. get_or l i d) powers_are
    ∙ ap (λ a. get_or (powers_from byte_modulus 3 nonzero_bytes a) i d) (sym (power-none byte_modulus 3))
    ∙ power_listed byte_modulus byte_degree 3 byte_generator.small nonzero_bytes 0 i d below
    ∙ ap (power_modulo byte_modulus 3) (omega arith)
    ∙ sym (field_power byte_modulus 3 i)

-- a power with nonzero_bytes less in the exponent is the same
pub power-less : (i : ℕ) → nonzero_bytes ≤ i → power byte_field 3 (i - nonzero_bytes) ≡ power byte_field 3 i
power-less i from =
    let less : ℕ = i - nonzero_bytes in
    field_power byte_modulus 3 less
    ∙ sym (product_modulo-one byte_modulus byte_degree (power_modulo byte_modulus 3 less) (power-lt byte_modulus byte_degree 3 less))
    ∙ ap (byte_field.mul (power_modulo byte_modulus 3 less)) (sym (order byte_modulus byte_degree 3 byte_generator))
    ∙ sym (power-add byte_modulus byte_degree 3 less nonzero_bytes)
    ∙ ap (power_modulo byte_modulus 3) (omega arith)
    ∙ sym (field_power byte_modulus 3 i)

pub logarithm-lt : (a : ℕ) → a < nonzero_bytes → get_or LOGARITHMS a 0 < nonzero_bytes
logarithm-lt a below =
    ltb-true (get_or LOGARITHMS a 0) nonzero_bytes
    (sym (get_or-map (λ l. ltb l nonzero_bytes) LOGARITHMS a 0 true below)
    ∙ ap (λ tests. get_or tests a true) logarithms_below
    ∙ get_or-map (λ l. true) LOGARITHMS a 0 true below)

-- entry a - 1 is the logarithm of a
pub logarithm_at : (a : ℕ) → a < nonzero_bytes → power byte_field 3 (get_or LOGARITHMS a 0) ≡ a + 1
logarithm_at a below =
    sym (power_at (get_or LOGARITHMS a 0) 0 (logarithm-lt a below))
    ∙ sym (get_or-map (λ l. get_or POWERS l 0) LOGARITHMS a 0 0 below)
    ∙ ap (λ l. get_or l a 0) powers_of_logarithms
    ∙ get_or-range_with_len 1 nonzero_bytes a 0 below
    ∙ omega arith

-- entry i of the powers has i as its logarithm
pub logarithm_of_power : (i : ℕ) → i < nonzero_bytes → get_or LOGARITHMS (get_or POWERS i 0 - 1) 0 ≡ i
logarithm_of_power i below =
    sym (get_or-map (λ p. get_or LOGARITHMS (p - 1) 0) POWERS i 0 0 below)
    ∙ ap (λ l. get_or l i 0) logarithms_of_powers
    ∙ get_or-range_with_len 0 nonzero_bytes i 0 below
    ∙ omega arith

-- ---- products and inverses by exponents

pub product_of_powers : (i j : ℕ) → byte_field.mul (power byte_field 3 i) (power byte_field 3 j) ≡ power byte_field 3 (i + j)
product_of_powers i j =
    ap₂ byte_field.mul (field_power byte_modulus 3 i) (field_power byte_modulus 3 j)
    ∙ sym (power-add byte_modulus byte_degree 3 i j)
    ∙ sym (field_power byte_modulus 3 (i + j))

-- a product with zero
pub product-zero_right : (a b : ℕ) → b ≡ 0 → 0 ≡ byte_field.mul a b
product-zero_right a b none = sym (ap (byte_field.mul a) none ∙ product_modulo-zero byte_modulus a)

pub product-zero_left : (a b : ℕ) → a ≡ 0 → 0 ≡ byte_field.mul a b
product-zero_left a b none = product-zero_right b a none ∙ product_modulo_commutes byte_modulus b a

-- what gives 1 with a is the inverse of a
only_inverse : (a b : ℕ) → byte_field.IsElement a → a ≢ 0 → byte_field.IsElement b → byte_field.mul a b ≡ 1 → b ≡ byte_field.inv a
only_inverse a b element nonzero also one =
    let is = byte_field_is_field in
    sym (is.mul_one b also)
    ∙ ap (byte_field.mul b) (sym (is.mul_inverse a element nonzero))
    ∙ sym (is.mul_associates b a (byte_field.inv a))
    ∙ ap (λ p. byte_field.mul p (byte_field.inv a)) (is.mul_commutes b a ∙ one)
    ∙ is.mul_commutes 1 (byte_field.inv a)
    ∙ is.mul_one (byte_field.inv a) (is.inv_element a element)

pub inverse_by_exponent : (a i : ℕ) → byte_field.IsElement a → a ≢ 0 → i < nonzero_bytes → power byte_field 3 i ≡ a
    → power byte_field 3 (nonzero_bytes - i) ≡ byte_field.inv a
inverse_by_exponent a i element nonzero below is =
    let b : ℕ = power byte_field 3 (nonzero_bytes - i) in
    let exponent : i + (nonzero_bytes - i) ≡ nonzero_bytes = omega arith in
    let low : byte_field.IsElement b =
    subst byte_field.IsElement (sym (field_power byte_modulus 3 (nonzero_bytes - i))) (power-lt byte_modulus byte_degree 3 (nonzero_bytes - i)) in
    only_inverse a b element nonzero low
    (ap (λ p. byte_field.mul p b) (sym is)
    ∙ product_of_powers i (nonzero_bytes - i)
    ∙ ap (power byte_field 3) exponent
    ∙ field_power byte_modulus 3 nonzero_bytes
    ∙ order byte_modulus byte_degree 3 byte_generator)
