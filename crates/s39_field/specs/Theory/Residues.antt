-- Division by a polynomial over two elements, and the laws of multiplication modulo it.
use Rattle.std.proofs.Common.{◌≡◌, ℕ, zero, suc, ◌+◌, ◌*◌, ◌/◌, ◌%◌, ◌^◌, ◌<◌, ◌≤◌, inr, refl, sym, ap, ap₂, ◌∙◌, subst}
use Rattle.std.proofs.Common.{arith, pow_pos, pow_mono, pow-suc, pow-add, zero-mul, div-lt_iff_lt-mul}
use Rattle.std.specs.Int.{bit_at}
use Rattle.std.specs.Int.Bits.{xor_shifted}
use Rattle.std.proofs.lemmas.Nat.{xor_lt, div_below, mod_below, div-add-mod'}
use Rattle.std.proofs.lemmas.Nat.Bits.{bit_at-lt, bit_at-zero, bit_at_xor, bit_at_above}
use Rattle.s39_field.specs.BinaryPolynomial.{binary_sum, binary_product}
use Rattle.s39_field.specs.FieldProduct.{Modulus, HasDegree, IsProduct, reduction, product_modulo}
use Rattle.s39_field.specs.Theory.BinaryPolynomials.{sum_commutes, sum_associates, sum_of_sums, sum_cancels}
use Rattle.s39_field.specs.Theory.BinaryPolynomials.{sum-zero_right, bit_cases, product-term, product_commutes}
use Rattle.s39_field.specs.Theory.BinaryPolynomials.{product_associates, product-sum_left, product-sum_right}
use Rattle.s39_field.specs.Theory.BinaryPolynomials.{product-one_right, product-lt, below-small, leading_bit}
use Rattle.s39_field.specs.Theory.BinaryPolynomials.{leading_bit-shifted, scaled-lt, lt-pow}

-- a and b differ by a multiple of the modulus
abbrev pub IsCongruent : Modulus → ℕ → ℕ → Type 0
IsCongruent m a b = (q : ℕ) × (a ≡ binary_sum (binary_product q m.polynomial) b)

pub congruent_refl : (m : Modulus) (a : ℕ) → IsCongruent m a a
congruent_refl m a = (0, refl)

pub congruent_sym : (m : Modulus) (a b : ℕ) → IsCongruent m a b → IsCongruent m b a
congruent_sym m a b h =
    let multiple : ℕ = binary_product h.0 m.polynomial in
    (h.0, sym (ap (binary_sum multiple) h.1 ∙ sum_cancels multiple b))

pub congruent_trans : (m : Modulus) (a b c : ℕ) → IsCongruent m a b → IsCongruent m b c → IsCongruent m a c
congruent_trans m a b c h k =
    let first : ℕ = binary_product h.0 m.polynomial in
    let second : ℕ = binary_product k.0 m.polynomial in (
      binary_sum h.0 k.0,
      h.1 ∙ ap (binary_sum first) k.1 ∙ sym (sum_associates first second c)
          ∙ ap (λ x. binary_sum x c) (sym (product-sum_left h.0 k.0 m.polynomial)),
    )

pub congruent_sum : (m : Modulus) (a b c d : ℕ) → IsCongruent m a b → IsCongruent m c d → IsCongruent m (binary_sum a c) (binary_sum b d)
congruent_sum m a b c d h k =
    let first : ℕ = binary_product h.0 m.polynomial in
    let second : ℕ = binary_product k.0 m.polynomial in (
      binary_sum h.0 k.0,
      ap₂ binary_sum h.1 k.1 ∙ sum_of_sums first b second d
          ∙ ap (λ x. binary_sum x (binary_sum b d)) (sym (product-sum_left h.0 k.0 m.polynomial)),
    )

pub congruent_product_right : (m : Modulus) (a b c : ℕ) → IsCongruent m b c → IsCongruent m (binary_product a b) (binary_product a c)
congruent_product_right m a b c h =
    let multiple : ℕ = binary_product h.0 m.polynomial in (
      binary_product a h.0,
      ap (binary_product a) h.1 ∙ product-sum_right a multiple c
          ∙ ap (λ x. binary_sum x (binary_product a c)) (sym (product_associates a h.0 m.polynomial)),
    )

pub congruent_product_left : (m : Modulus) (a b c : ℕ) → IsCongruent m a b → IsCongruent m (binary_product a c) (binary_product b c)
congruent_product_left m a b c h =
    let turned = congruent_product_right m c a b h in
    (turned.0, product_commutes a c ∙ turned.1 ∙ ap (binary_sum (binary_product turned.0 m.polynomial)) (product_commutes c b))

-- congruent polynomials of lower degree than the modulus are equal
pub same_from_congruent : (m : Modulus) → HasDegree m → (a b : ℕ) → a < 2 ^ m.degree → b < 2 ^ m.degree → IsCongruent m a b → a ≡ b
same_from_congruent m is a b p q h =
    let multiple : ℕ = binary_product h.0 m.polynomial in
    let sum : binary_sum a b ≡ multiple =
    ap (λ x. binary_sum x b) h.1
    ∙ sum_commutes (binary_sum multiple b) b
    ∙ ap (binary_sum b) (sum_commutes multiple b)
    ∙ sum_cancels b multiple in
    let low : multiple < 2 ^ m.degree = subst (λ x. x < 2 ^ m.degree) sum (xor_lt m.degree a b p q) in
    let none : multiple ≡ 0 = below-small h.0 h.0 m.degree m.polynomial is.at_least is.below low in
    h.1 ∙ ap (λ x. binary_sum x b) none

-- ---- division

-- a number of one bit more whose top bit is 0
below_from_top : (n t : ℕ) → n < 2 ^ suc t → bit_at n t ≡ 0 → n < 2 ^ t
below_from_top n t h none =
    let below : n / 2 ^ t < 2 = div_below n (2 ^ t) 2 (pow_pos t) (omega (arith, pow-suc 2 t)) in
    let is : n / 2 ^ t < 1 = omega arith in
    let within : n < 1 * 2 ^ t = (div-lt_iff_lt-mul (pow_pos t)).0 is in
    omega arith

-- one step of the division clears the coefficient at the top
step_lt : (m : Modulus)
    → HasDegree m
    → (k n : ℕ)
    → n < 2 ^ (m.degree + suc k)
    → binary_sum n (bit_at n (m.degree + k) * (2 ^ k * m.polynomial)) < 2 ^ (m.degree + k)
step_lt m is k n h =
    let top : ℕ = m.degree + k in
    let multiple : ℕ = bit_at n top * (2 ^ k * m.polynomial) in
    let wide : 2 ^ (m.degree + suc k) ≡ 2 ^ suc top = ap (λ i. 2 ^ i) (omega arith) in
    let also : 2 ^ (k + suc m.degree) ≡ 2 ^ suc top = ap (λ i. 2 ^ i) (omega arith) in
    let place : k + m.degree ≡ top = omega arith in
    let leading : bit_at multiple top ≡ bit_at n top =
    ap (bit_at multiple) (sym place)
    ∙ leading_bit-shifted m.degree m.polynomial (bit_at n top) k (leading_bit m.degree m.polynomial is.at_least is.below) (bit_cases n top) in
    let multiple_lt : multiple < 2 ^ suc top =
    subst (λ x. multiple < x) also (scaled-lt (bit_at n top) k m.polynomial (suc m.degree) (bit_cases n top) is.below) in
    let both = bit_at_xor n multiple top in
    let small = bit_at-lt n top in
    let none : bit_at (binary_sum n multiple) top ≡ 0 = grind arith in
    below_from_top (binary_sum n multiple) top (xor_lt (suc top) n multiple (omega arith) multiple_lt) none

step_congruent : (m : Modulus) (k n : ℕ) → IsCongruent m n (binary_sum n (bit_at n (m.degree + k) * (2 ^ k * m.polynomial)))
step_congruent m k n =
    let top : ℕ = m.degree + k in
    let multiple : ℕ = bit_at n top * (2 ^ k * m.polynomial) in (
      bit_at n top * 2 ^ k,
      sym (sum_cancels multiple n) ∙ ap (binary_sum multiple) (sum_commutes multiple n)
          ∙ ap (λ x. binary_sum x (binary_sum n multiple)) (sym (product-term n (bit_at n top) m.polynomial (bit_cases n top) k)),
    )

pub reduction-lt : (m : Modulus) → HasDegree m → (k n : ℕ) → n < 2 ^ (m.degree + k) → reduction m k n < 2 ^ m.degree
reduction-lt m is zero n h = subst (λ i. n < 2 ^ i) (omega arith) h
reduction-lt m is (suc k) n h = reduction-lt m is k (binary_sum n (bit_at n (m.degree + k) * (2 ^ k * m.polynomial))) (step_lt m is k n h)

pub reduction_congruent : (m : Modulus) (k n : ℕ) → IsCongruent m n (reduction m k n)
reduction_congruent m zero n = congruent_refl m n
reduction_congruent m (suc k) n =
    let next : ℕ = binary_sum n (bit_at n (m.degree + k) * (2 ^ k * m.polynomial)) in
    congruent_trans m n next (reduction m k next) (step_congruent m k n) (reduction_congruent m k next)

-- ---- the product modulo m

pub product_modulo-lt : (m : Modulus) → HasDegree m → (a b : ℕ) → product_modulo m a b < 2 ^ m.degree
unfolding product_modulo
product_modulo-lt m is a b =
    let low : binary_product a b < 2 ^ (a + b) = product-lt a b a b (lt-pow a) (lt-pow b) in
    let wider : 2 ^ (a + b) ≤ 2 ^ (m.degree + (a + b)) = pow_mono (omega arith) in
    reduction-lt m is (a + b) (binary_product a b) (omega arith)

pub product_modulo_congruent : (m : Modulus) (a b : ℕ) → IsCongruent m (binary_product a b) (product_modulo m a b)
unfolding product_modulo
product_modulo_congruent m a b = reduction_congruent m (a + b) (binary_product a b)

pub is_product_modulo : (m : Modulus) → HasDegree m → (a b : ℕ) → IsProduct m a b (product_modulo m a b)
is_product_modulo m is a b = record { lower_degree = product_modulo-lt m is a b; quotient = product_modulo_congruent m a b }

-- a number of lower degree that is congruent to the product is the product modulo m
pub same_as_product_modulo : (m : Modulus) → HasDegree m → (a b r : ℕ) → r < 2 ^ m.degree → IsCongruent m (binary_product a b) r → r ≡ product_modulo m a b
same_as_product_modulo m is a b r low h =
    same_from_congruent m is r (product_modulo m a b) low (product_modulo-lt m is a b)
    (congruent_trans m r (binary_product a b) (product_modulo m a b) (congruent_sym m (binary_product a b) r h) (product_modulo_congruent m a b))

pub product_unique : (m : Modulus) → HasDegree m → (a b r : ℕ) → IsProduct m a b r → r ≡ product_modulo m a b
product_unique m is a b r h = same_as_product_modulo m is a b r h.lower_degree h.quotient

pub product_modulo_commutes : (m : Modulus) → (a b : ℕ) → product_modulo m a b ≡ product_modulo m b a
unfolding product_modulo
product_modulo_commutes m a b =
    let order : a + b ≡ b + a = omega arith in
    ap₂ (reduction m) order (product_commutes a b)

pub product_modulo_associates : (m : Modulus)
    → HasDegree m
    → (a b c : ℕ)
    → product_modulo m (product_modulo m a b) c ≡ product_modulo m a (product_modulo m b c)
product_modulo_associates m is a b c =
    let ab : ℕ = product_modulo m a b in
    let bc : ℕ = product_modulo m b c in
    same_as_product_modulo m is a bc (product_modulo m ab c) (product_modulo-lt m is ab c)
    (congruent_trans m (binary_product a bc) (binary_product a (binary_product b c)) (product_modulo m ab c)
    (congruent_product_right m a bc (binary_product b c) (congruent_sym m (binary_product b c) bc (product_modulo_congruent m b c)))
    (subst (λ x. IsCongruent m x (product_modulo m ab c)) (product_associates a b c)
    (congruent_trans m (binary_product (binary_product a b) c) (binary_product ab c) (product_modulo m ab c)
    (congruent_product_left m (binary_product a b) ab c (product_modulo_congruent m a b))
    (product_modulo_congruent m ab c))))

pub product_modulo_distributes : (m : Modulus)
    → HasDegree m
    → (a b c : ℕ)
    → product_modulo m a (binary_sum b c) ≡ binary_sum (product_modulo m a b) (product_modulo m a c)
product_modulo_distributes m is a b c =
    let ab : ℕ = product_modulo m a b in
    let ac : ℕ = product_modulo m a c in
    sym (same_as_product_modulo m is a (binary_sum b c) (binary_sum ab ac) (xor_lt m.degree ab ac (product_modulo-lt m is a b) (product_modulo-lt m is a c))
    (subst (λ x. IsCongruent m x (binary_sum ab ac)) (sym (product-sum_right a b c))
    (congruent_sum m (binary_product a b) ab (binary_product a c) ac (product_modulo_congruent m a b) (product_modulo_congruent m a c))))

pub product_modulo-one : (m : Modulus) → HasDegree m → (a : ℕ) → a < 2 ^ m.degree → product_modulo m a 1 ≡ a
product_modulo-one m is a low =
    sym (same_as_product_modulo m is a 1 a low
    (subst (λ x. IsCongruent m x a) (sym (product-one_right a)) (congruent_refl m a)))

-- ---- what a program's steps need

-- to multiply by a product is to multiply by its factors in turn
pub product_modulo-product : (m : Modulus) → HasDegree m → (a b c : ℕ) → product_modulo m a (binary_product b c) ≡ product_modulo m (product_modulo m a b) c
product_modulo-product m is a b c =
    let ab : ℕ = product_modulo m a b in
    sym (same_as_product_modulo m is a (binary_product b c) (product_modulo m ab c) (product_modulo-lt m is ab c)
    (subst (λ x. IsCongruent m x (product_modulo m ab c)) (product_associates a b c)
    (congruent_trans m (binary_product (binary_product a b) c) (binary_product ab c) (product_modulo m ab c)
    (congruent_product_left m (binary_product a b) ab c (product_modulo_congruent m a b))
    (product_modulo_congruent m ab c))))

reduction-zero : (m : Modulus) (k : ℕ) → reduction m k 0 ≡ 0
reduction-zero m zero = refl
reduction-zero m (suc k) =
    ap (reduction m k) (ap (λ x. x * (2 ^ k * m.polynomial)) (bit_at-zero (m.degree + k)) ∙ zero-mul (2 ^ k * m.polynomial))
    ∙ reduction-zero m k

pub product_modulo-zero : (m : Modulus) (a : ℕ) → product_modulo m a 0 ≡ 0
unfolding product_modulo
product_modulo-zero m a = ap (reduction m (a + 0)) (product_commutes a 0) ∙ reduction-zero m (a + 0)

pub product-two : (c : ℕ) → binary_product 2 c ≡ 2 * c
product-two c = product-term 0 1 c (inr refl) 1 ∙ omega arith

-- x times a, if the double has the modulus's degree, and if it has a lower one
pub doubled : (m : Modulus) → HasDegree m → (a : ℕ) → a < 2 ^ m.degree → reduction m 1 (2 * a) ≡ product_modulo m a 2
doubled m is a low =
    let wide : 2 * a < 2 ^ (m.degree + 1) = omega (arith, pow-add 2 m.degree 1) in
    let twice : binary_product a 2 ≡ 2 * a = product_commutes a 2 ∙ product-two a in
    same_as_product_modulo m is a 2 (reduction m 1 (2 * a)) (reduction-lt m is 1 (2 * a) wide)
    (subst (λ x. IsCongruent m x (reduction m 1 (2 * a))) (sym twice) (reduction_congruent m 1 (2 * a)))

pub doubled_over : (m : Modulus) → HasDegree m → (a : ℕ) → a < 2 ^ m.degree → 2 ^ m.degree ≤ 2 * a → binary_sum (2 * a) m.polynomial ≡ product_modulo m a 2
doubled_over m is a low over =
    let place : m.degree ≡ m.degree + 0 = omega arith in
    let top : bit_at (2 * a) (m.degree + 0) ≡ 1 = ap (bit_at (2 * a)) (sym place) ∙ leading_bit m.degree (2 * a) over (omega (arith, pow-suc 2 m.degree)) in
    let multiple : m.polynomial ≡ bit_at (2 * a) (m.degree + 0) * (2 ^ 0 * m.polynomial) =
    rw top (omega arith) in
    ap (binary_sum (2 * a)) multiple ∙ doubled m is a low

pub doubled_under : (m : Modulus) → HasDegree m → (a : ℕ) → a < 2 ^ m.degree → 2 * a < 2 ^ m.degree → 2 * a ≡ product_modulo m a 2
doubled_under m is a low under =
    let place : m.degree ≤ m.degree + 0 = omega arith in
    let top : bit_at (2 * a) (m.degree + 0) ≡ 0 = bit_at_above (2 * a) m.degree (m.degree + 0) under place in
    let none : 0 ≡ bit_at (2 * a) (m.degree + 0) * (2 ^ 0 * m.polynomial) = rw top (omega arith) in
    sym (sum-zero_right (2 * a)) ∙ ap (binary_sum (2 * a)) none ∙ doubled m is a low

halves : (b : ℕ) → binary_sum (b % 2) (binary_product 2 (b / 2)) ≡ b
halves b =
    let low = mod_below b 2 (omega arith) in
    let shifted : 2 * (b / 2) ≡ b / 2 * 2 ^ 1 = omega arith in
    let split = div-add-mod' b 2 in
    ap (binary_sum (b % 2)) (product-two (b / 2) ∙ shifted)
    ∙ sum_commutes (b % 2) (b / 2 * 2 ^ 1)
    ∙ xor_shifted (b / 2) 1 (b % 2) (omega arith)
    ∙ omega arith

by_lowest : (m : Modulus)
    → HasDegree m
    → (a b : ℕ)
    → product_modulo m a b ≡ binary_sum (product_modulo m a (b % 2)) (product_modulo m (product_modulo m a 2) (b / 2))
by_lowest m is a b =
    ap (product_modulo m a) (sym (halves b))
    ∙ product_modulo_distributes m is a (b % 2) (binary_product 2 (b / 2))
    ∙ ap (binary_sum (product_modulo m a (b % 2))) (product_modulo-product m is a 2 (b / 2))

-- one turn of a product by shifts: the sum so far, and what is left of the product
pub turn_odd : (m : Modulus)
    → HasDegree m
    → (sum a b : ℕ)
    → a < 2 ^ m.degree
    → b % 2 ≡ 1
    → binary_sum (binary_sum sum a) (product_modulo m (product_modulo m a 2) (b / 2)) ≡ binary_sum sum (product_modulo m a b)
turn_odd m is sum a b low odd =
    let rest : ℕ = product_modulo m (product_modulo m a 2) (b / 2) in
    sum_associates sum a rest
    ∙ ap (λ x. binary_sum sum (binary_sum x rest)) (sym (ap (product_modulo m a) odd ∙ product_modulo-one m is a low))
    ∙ ap (binary_sum sum) (sym (by_lowest m is a b))

pub turn_even : (m : Modulus)
    → HasDegree m
    → (sum a b : ℕ)
    → b % 2 ≡ 0
    → binary_sum sum (product_modulo m (product_modulo m a 2) (b / 2)) ≡ binary_sum sum (product_modulo m a b)
turn_even m is sum a b even =
    let rest : ℕ = product_modulo m (product_modulo m a 2) (b / 2) in
    let none : product_modulo m a (b % 2) ≡ 0 = ap (product_modulo m a) even ∙ product_modulo-zero m a in
    ap (binary_sum sum) (ap (λ x. binary_sum x rest) (sym none) ∙ sym (by_lowest m is a b))
