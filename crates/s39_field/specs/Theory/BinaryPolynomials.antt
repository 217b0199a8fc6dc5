-- The ring laws of the polynomials over two elements, and the degree of a product.
use Rattle.std.proofs.Common.{◌≡◌, ℕ, zero, suc, ◌+◌, ◌-◌, ◌*◌, ◌/◌, ◌%◌, ◌^◌, ◌<◌, ◌≤◌, ◌⊎◌, inl, inr, refl, sym, ap}
use Rattle.std.proofs.Common.{ap₂, ◌∙◌, subst, arith, pow_pos, pow_mono, pow-suc, pow-add, lt_of_lt_of_le, zero-mul}
use Rattle.std.proofs.Common.{one-mul, mul-zero, bit_xor, eq-or-lt_of_le, le_of_suc-le-suc, mul-le-mul}
use Rattle.std.specs.Int.{bit_at}
use Rattle.std.specs.Int.Bits.{xor_self, xor_zero_r, xor_assoc}
use Rattle.std.proofs.lemmas.Nat.{xor_comm, xor_lt, xor_block, mod-pow-add, div_below, le-div, mod_below, mul-le}
use Rattle.std.proofs.lemmas.Nat.Bits.{bit_at-lt, bit_at-zero, bit_at_xor, bit_at_above, bit_at_cat_high}
use Rattle.s39_field.specs.BinaryPolynomial.{binary_sum, product_below, binary_product}

-- ---- sums

pub sum-zero_right : (a : ℕ) → binary_sum a 0 ≡ a
sum-zero_right a = xor_zero_r a

pub sum-self : (a : ℕ) → binary_sum a a ≡ 0
sum-self a = xor_self a

pub sum_commutes : (a b : ℕ) → binary_sum a b ≡ binary_sum b a
sum_commutes a b = xor_comm a b

pub sum_associates : (a b c : ℕ) → binary_sum (binary_sum a b) c ≡ binary_sum a (binary_sum b c)
sum_associates a b c = xor_assoc a b c

pub sum_exchanges : (a b c : ℕ) → binary_sum a (binary_sum b c) ≡ binary_sum b (binary_sum a c)
sum_exchanges a b c = sym (xor_assoc a b c) ∙ ap (λ x. bit_xor x c) (xor_comm a b) ∙ xor_assoc b a c

pub sum_of_sums : (a b c d : ℕ) → binary_sum (binary_sum a b) (binary_sum c d) ≡ binary_sum (binary_sum a c) (binary_sum b d)
sum_of_sums a b c d = xor_assoc a b (bit_xor c d) ∙ ap (bit_xor a) (sum_exchanges b c d) ∙ sym (xor_assoc a c (bit_xor b d))

-- to add twice is to add nothing
pub sum_cancels : (a b : ℕ) → binary_sum a (binary_sum a b) ≡ b
sum_cancels a b = sym (xor_assoc a a b) ∙ ap (λ x. bit_xor x b) (xor_self a)

pub same_from_sum : (a b : ℕ) → binary_sum a b ≡ 0 → a ≡ b
same_from_sum a b e = sym (xor_zero_r a) ∙ ap (bit_xor a) (sym e) ∙ sum_cancels a b

-- ---- a polynomial times x ^ k, and times a coefficient

sum-shifted : (k a b : ℕ) → 2 ^ k * bit_xor a b ≡ bit_xor (2 ^ k * a) (2 ^ k * b)
sum-shifted k a b =
    let block = xor_block k a b 0 0 (pow_pos k) (pow_pos k) in
    let left : a * 2 ^ k + 0 ≡ 2 ^ k * a = omega arith in
    let right : b * 2 ^ k + 0 ≡ 2 ^ k * b = omega arith in
    let whole : 2 ^ k * bit_xor a b ≡ bit_xor a b * 2 ^ k + 0 = omega arith in
    whole ∙ sym block ∙ ap₂ bit_xor left right

-- a coefficient is 0 or 1
pub bit_cases : (n i : ℕ) → (bit_at n i ≡ 0) ⊎ (bit_at n i ≡ 1)
bit_cases n i = let h = bit_at-lt n i in grind arith

sum-scaled : (k a b : ℕ) → (k ≡ 0) ⊎ (k ≡ 1) → k * bit_xor a b ≡ bit_xor (k * a) (k * b)
sum-scaled k a b (inl e) = rw e (simp zero-mul)
sum-scaled k a b (inr e) = rw e (simp one-mul)

-- the term of place i in a product
abbrev term : ℕ → ℕ → ℕ → ℕ
term a i b = bit_at a i * (2 ^ i * b)

term-sum : (a i b c : ℕ) → term a i (bit_xor b c) ≡ bit_xor (term a i b) (term a i c)
term-sum a i b c = ap (λ x. bit_at a i * x) (sum-shifted i b c) ∙ sum-scaled (bit_at a i) (2 ^ i * b) (2 ^ i * c) (bit_cases a i)

-- ---- products

below-sum : (n a b c : ℕ) → product_below n a (binary_sum b c) ≡ binary_sum (product_below n a b) (product_below n a c)
below-sum zero a b c = refl
below-sum (suc n) a b c =
    ap₂ bit_xor (below-sum n a b c) (term-sum a n b c)
    ∙ sum_of_sums (product_below n a b) (product_below n a c) (term a n b) (term a n c)

below-zero : (n a : ℕ) → product_below n a 0 ≡ 0
below-zero n a = below-sum n a 0 0 ∙ xor_self (product_below n a 0)

below-shifted : (n a k b : ℕ) → product_below n a (2 ^ k * b) ≡ 2 ^ k * product_below n a b
below-shifted zero a k b = sym (mul-zero (2 ^ k))
below-shifted (suc n) a k b =
    let moved : bit_at a n * (2 ^ n * (2 ^ k * b)) ≡ 2 ^ k * (bit_at a n * (2 ^ n * b)) = omega arith in
    ap₂ bit_xor (below-shifted n a k b) moved ∙ sym (sum-shifted k (product_below n a b) (term a n b))

below-scaled : (n a k b : ℕ) → (k ≡ 0) ⊎ (k ≡ 1) → product_below n a (k * b) ≡ k * product_below n a b
below-scaled n a k b (inl e) = rw e (simp zero-mul (below-zero n a))
below-scaled n a k b (inr e) = rw e (simp one-mul)

below-term : (n a b i c : ℕ) → product_below n a (term b i c) ≡ term b i (product_below n a c)
below-term n a b i c =
    below-scaled n a (bit_at b i) (2 ^ i * c) (bit_cases b i) ∙ ap (λ x. bit_at b i * x) (below-shifted n a i c)

below_exchanges : (n m a b c : ℕ) → product_below n a (product_below m b c) ≡ product_below m b (product_below n a c)
below_exchanges n zero a b c = below-zero n a
below_exchanges n (suc m) a b c =
    below-sum n a (product_below m b c) (term b m c) ∙ ap₂ bit_xor (below_exchanges n m a b c) (below-term n a b m c)

-- the places below n of a
below-one : (n a : ℕ) → product_below n a 1 ≡ a % 2 ^ n
below-one zero a = let h = mod_below a 1 (omega arith) in omega arith
below-one (suc n) a =
    let step : suc n ≡ 1 + n = omega arith in
    let low = mod_below a (2 ^ n) (pow_pos n) in
    let whole : bit_at a n * (2 ^ n * 1) ≡ bit_at a n * 2 ^ n + 0 = omega arith in
    let small : a % 2 ^ n ≡ 0 * 2 ^ n + a % 2 ^ n = omega arith in
    ap₂ bit_xor (below-one n a ∙ small) whole
    ∙ xor_block n 0 (bit_at a n) (a % 2 ^ n) 0 low (pow_pos n)
    ∙ ap (λ x. bit_at a n * 2 ^ n + x) (xor_zero_r (a % 2 ^ n))
    ∙ sym (ap (λ k. a % 2 ^ k) step ∙ mod-pow-add a 1 n)

pub lt-pow : (a : ℕ) → a < 2 ^ a
lt-pow zero = omega arith
lt-pow (suc a) = omega (arith, lt-pow a, pow-suc 2 a)

-- places beyond a's degree add nothing
below-more : (n m a b : ℕ) → n ≤ m → a < 2 ^ n → product_below m a b ≡ product_below n a b
below-more n zero a b h s = let e : 0 ≡ n = omega arith in ap (λ k. product_below k a b) e
below-more n (suc m) a b h s =
    elim (eq-or-lt_of_le h) [
      | inl e ↦ ap (λ k. product_below k a b) (sym e)
      | inr lt ↦
          let le : n ≤ m = omega arith in
          let none : bit_at a m * (2 ^ m * b) ≡ 0 = ap (λ x. x * (2 ^ m * b)) (bit_at_above a n m s le) ∙ zero-mul (2 ^ m * b) in
          ap₂ bit_xor (below-more n m a b le s) none ∙ xor_zero_r (product_below n a b)
    ]

-- the product by the places below any bound on a's degree
pub product-below : (n a b : ℕ) → a < 2 ^ n → binary_product a b ≡ product_below n a b
product-below n a b h =
    elim (order n a) [
      | inl le ↦ below-more n a a b le h
      | inr le ↦ sym (below-more a n a b le (lt-pow a))
    ]
  where
    order : (x y : ℕ) → (x ≤ y) ⊎ (y ≤ x)
    order x y = grind arith

pub product-one_right : (a : ℕ) → binary_product a 1 ≡ a
product-one_right a = below-one a a ∙ mod-small a (2 ^ a) (lt-pow a)
  where
    mod-small : (x y : ℕ) → x < y → x % y ≡ x
    mod-small x y h = Rattle.std.proofs.Common.mod-eq_of_lt h

pub product_commutes : (a b : ℕ) → binary_product a b ≡ binary_product b a
product_commutes a b =
    ap (binary_product a) (sym (product-one_right b)) ∙ below_exchanges a b a b 1 ∙ ap (binary_product b) (product-one_right a)

pub product_exchanges : (a b c : ℕ) → binary_product a (binary_product b c) ≡ binary_product b (binary_product a c)
product_exchanges a b c = below_exchanges a b a b c

pub product_associates : (a b c : ℕ) → binary_product (binary_product a b) c ≡ binary_product a (binary_product b c)
product_associates a b c =
    product_commutes (binary_product a b) c ∙ product_exchanges c a b ∙ ap (binary_product a) (product_commutes c b)

pub product-sum_right : (a b c : ℕ) → binary_product a (binary_sum b c) ≡ binary_sum (binary_product a b) (binary_product a c)
product-sum_right a b c = below-sum a a b c

pub product-sum_left : (a b c : ℕ) → binary_product (binary_sum a b) c ≡ binary_sum (binary_product a c) (binary_product b c)
product-sum_left a b c =
    product_commutes (binary_sum a b) c ∙ product-sum_right c a b ∙ ap₂ bit_xor (product_commutes c a) (product_commutes c b)

pub product-zero_left : (a : ℕ) → binary_product 0 a ≡ 0
product-zero_left a = refl

-- the product with a term of one place
pub product-term : (a k b : ℕ) → (k ≡ 0) ⊎ (k ≡ 1) → (i : ℕ) → binary_product (k * 2 ^ i) b ≡ k * (2 ^ i * b)
product-term a k b cases i =
    let one : 2 ^ i * 1 ≡ 2 ^ i = omega arith in
    product_commutes (k * 2 ^ i) b
    ∙ below-scaled b b k (2 ^ i) cases
    ∙ ap (λ x. k * binary_product b x) (sym one)
    ∙ ap (λ x. k * x) (below-shifted b b i 1)
    ∙ ap (λ x. k * (2 ^ i * x)) (product-one_right b)

-- ---- degrees

pub scaled-lt : (c i b m : ℕ) → (c ≡ 0) ⊎ (c ≡ 1) → b < 2 ^ m → c * (2 ^ i * b) < 2 ^ (i + m)
scaled-lt c i b m (inl e) h =
    let none : c * (2 ^ i * b) ≡ 0 = ap (λ x. x * (2 ^ i * b)) e ∙ zero-mul (2 ^ i * b) in
    omega (arith, pow_pos (i + m))
scaled-lt c i b m (inr e) h =
    let split : 2 ^ (i + m) ≡ 2 ^ i * 2 ^ m = pow-add 2 i m in
    let below : 2 ^ i * b < 2 ^ i * 2 ^ m = omega (arith, mul-le (2 ^ i) (b + 1) (2 ^ i) (2 ^ m) (omega arith) (omega arith), pow_pos i) in
    let whole : c * (2 ^ i * b) ≡ 2 ^ i * b = ap (λ x. x * (2 ^ i * b)) e ∙ one-mul (2 ^ i * b) in
    omega arith

-- with b of degree m or lower, the terms at the places below n have a degree below n + m
pub below-lt : (n a b m : ℕ) → b < 2 ^ suc m → product_below n a b < 2 ^ (n + m)
below-lt zero a b m h = pow_pos (0 + m)
below-lt (suc n) a b m h =
    let wider : 2 ^ (n + m) ≤ 2 ^ (suc n + m) = pow_mono (omega arith) in
    let same : 2 ^ (n + suc m) ≡ 2 ^ (suc n + m) = ap (λ k. 2 ^ k) (omega arith) in
    let first = below-lt n a b m h in
    let last = scaled-lt (bit_at a n) n b (suc m) (bit_cases a n) h in
    xor_lt (suc n + m) (product_below n a b) (term a n b) (omega arith) (omega arith)

pub product-lt : (n m a b : ℕ) → a < 2 ^ n → b < 2 ^ m → binary_product a b < 2 ^ (n + m)
product-lt n m a b p q = subst (λ x. x < 2 ^ (n + m)) (sym (product-below n a b p)) (below-lt n a b m (omega (arith, pow-suc 2 m)))

-- the coefficient at the degree of a polynomial is 1
pub leading_bit : (d p : ℕ) → 2 ^ d ≤ p → p < 2 ^ suc d → bit_at p d ≡ 1
leading_bit d p low high =
    let at_least : 1 ≤ p / 2 ^ d = le-div 1 p (2 ^ d) (pow_pos d) (omega arith) in
    let below : p / 2 ^ d < 2 = div_below p (2 ^ d) 2 (pow_pos d) (omega (arith, pow-suc 2 d)) in
    let is : p / 2 ^ d ≡ 1 = omega arith in
    ap (λ x. x % 2) is

pub leading_bit-shifted : (d p k n : ℕ) → bit_at p d ≡ 1 → (k ≡ 0) ⊎ (k ≡ 1) → bit_at (k * (2 ^ n * p)) (n + d) ≡ k
leading_bit-shifted d p k n h (inl e) = rw e (simp zero-mul (bit_at-zero (n + d)))
leading_bit-shifted d p k n h (inr e) =
    let whole : 1 * (2 ^ n * p) ≡ p * 2 ^ n + 0 = omega arith in
    let place : n + d - n ≡ d = omega arith in
    rw e (ap (λ x. bit_at x (n + d)) whole ∙ bit_at_cat_high p n 0 (n + d) (pow_pos n) (omega arith) ∙ ap (bit_at p) place ∙ h)

-- a multiple of a polynomial that has a lower degree than it is zero
pub below-small : (n q d p : ℕ) → 2 ^ d ≤ p → p < 2 ^ suc d → product_below n q p < 2 ^ d → product_below n q p ≡ 0
below-small zero q d p low high h = refl
below-small (suc n) q d p low high h =
    let top = leading_bit-shifted d p (bit_at q n) n (leading_bit d p low high) (bit_cases q n) in
    let one : bit_at (product_below (suc n) q p) (n + d) ≡ 0 = bit_at_above (product_below (suc n) q p) d (n + d) h (omega arith) in
    let rest : bit_at (product_below n q p) (n + d) ≡ 0 = bit_at_above (product_below n q p) (n + d) (n + d) (below-lt n q p d high) (omega arith) in
    let both = bit_at_xor (product_below n q p) (term q n p) (n + d) in
    let small = bit_at-lt q n in
    let none : bit_at q n ≡ 0 = grind arith in
    let gone : term q n p ≡ 0 = ap (λ x. x * (2 ^ n * p)) none ∙ zero-mul (2 ^ n * p) in
    let same : product_below (suc n) q p ≡ product_below n q p = ap (bit_xor (product_below n q p)) gone ∙ xor_zero_r (product_below n q p) in
    same ∙ below-small n q d p low high (subst (λ x. x < 2 ^ d) same h)
