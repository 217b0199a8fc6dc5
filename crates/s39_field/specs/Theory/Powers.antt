-- Both fields have inverses: the powers of a generator run through all nonzero elements.
use Rattle.std.proofs.Common.{List, [], ◌∷◌, get_or, ◌≡◌, ◌≢◌, ℕ, zero, suc, ◌+◌, ◌-◌, ◌*◌, ◌^◌, ◌<◌, ◌≤◌, ◌⊎◌, inl, inr, refl, sym, ap, ◌∙◌}
use Rattle.std.proofs.Common.{subst, arith, lit<, lit≤, pow_pos, pow_mono, pow-suc, pow-add, bit_or, add-zero, add-suc}
use Rattle.std.proofs.Common.{mul-zero, mul-suc}
use Rattle.std.specs.Int.{bit_at}
use Rattle.std.proofs.lemmas.Nat.{xor_lt}
use Rattle.std.proofs.lemmas.Nat.Bits.{bit_at_or, bit_at-pow_other, bit_at-zero, bit_at_mask_inside}
use Rattle.s39_field.specs.BinaryPolynomial.{binary_product}
use Rattle.s39_field.specs.Field.{IsField}
use Rattle.s39_field.specs.Polynomial.{power}
use Rattle.s39_field.specs.FieldProduct.{Modulus, HasDegree, byte_modulus, word_modulus, reduction, product_modulo}
use Rattle.s39_field.specs.FieldProduct.{power_modulo, field_modulo, byte_field, word_field}
use Rattle.s39_field.specs.Theory.BinaryPolynomials.{sum_commutes, sum_associates, sum-zero_right, sum-self, product_commutes, product-below, below-lt}
use Rattle.s39_field.specs.Theory.Residues.{IsCongruent, reduction-lt, reduction_congruent, product_modulo-lt}
use Rattle.s39_field.specs.Theory.Residues.{same_as_product_modulo, product_modulo_commutes, product_modulo_associates}
use Rattle.s39_field.specs.Theory.Residues.{product_modulo_distributes, product_modulo-one}

module _ (m : Modulus) (is : HasDegree m) where
  pub one-lt : 1 < 2 ^ m.degree
  one-lt = let h : 2 ^ 1 ≤ 2 ^ m.degree = pow_mono is.positive in omega arith

  pub power-lt : (x n : ℕ) → power_modulo m x n < 2 ^ m.degree
  unfolding power_modulo
  power-lt x zero = one-lt
  power-lt x (suc n) = product_modulo-lt m is (power_modulo m x n) x

  pub power-add : (x i j : ℕ) → power_modulo m x (i + j) ≡ product_modulo m (power_modulo m x i) (power_modulo m x j)
  unfolding power_modulo
  power-add x i zero = ap (power_modulo m x) (add-zero i) ∙ sym (product_modulo-one m is (power_modulo m x i) (power-lt x i))
  power-add x i (suc j) =
      ap (power_modulo m x) (add-suc i j)
      ∙ ap (λ y. product_modulo m y x) (power-add x i j)
      ∙ product_modulo_associates m is (power_modulo m x i) (power_modulo m x j) x

  power-mul : (x i j : ℕ) → power_modulo m x (i * j) ≡ power_modulo m (power_modulo m x i) j
  unfolding power_modulo
  power-mul x i zero = ap (power_modulo m x) (mul-zero i)
  power-mul x i (suc j) =
      ap (power_modulo m x) (mul-suc i j)
      ∙ power-add x (i * j) i
      ∙ ap (λ y. product_modulo m y (power_modulo m x i)) (power-mul x i j)

  power-one : (n : ℕ) → power_modulo m 1 n ≡ 1
  unfolding power_modulo
  power-one zero = refl
  power-one (suc n) = product_modulo-one m is (power_modulo m 1 n) (power-lt 1 n) ∙ power-one n

  power-powers_swap : (x i j : ℕ) → power_modulo m (power_modulo m x i) j ≡ power_modulo m (power_modulo m x j) i
  power-powers_swap x i j =
      let turned : i * j ≡ j * i = omega arith in
      sym (power-mul x i j) ∙ ap (power_modulo m x) turned ∙ power-mul x j i

module _ (m : Modulus) (is : HasDegree m) (a k : ℕ) (from_one : 1 ≤ k) where
  -- one turn of an inverse by squares: the next square, and the product of one more of them
  pub next_square : product_modulo m (power_modulo m a (2 ^ (k - 1))) (power_modulo m a (2 ^ (k - 1))) ≡ power_modulo m a (2 ^ k)
  next_square =
      let exponent : 2 ^ (k - 1) + 2 ^ (k - 1) ≡ 2 ^ k =
      omega (arith, pow-suc 2 (k - 1), ap (λ i. 2 ^ i) (the_next k from_one)) in
      sym (power-add m is a (2 ^ (k - 1)) (2 ^ (k - 1))) ∙ ap (power_modulo m a) exponent
    where
      the_next : (i : ℕ) → 1 ≤ i → suc (i - 1) ≡ i
      the_next i h = omega arith

  pub next_product : product_modulo m (power_modulo m a (2 ^ k - 2)) (power_modulo m a (2 ^ k)) ≡ power_modulo m a (2 ^ (k + 1) - 2)
  next_product =
      let two : 2 ^ 1 ≤ 2 ^ k = pow_mono from_one in
      let exponent : 2 ^ k - 2 + 2 ^ k ≡ 2 ^ (k + 1) - 2 = omega (arith, pow-add 2 k 1) in
      sym (power-add m is a (2 ^ k - 2) (2 ^ k)) ∙ ap (power_modulo m a) exponent

-- the first power
pub power-first : (m : Modulus) → HasDegree m → (a : ℕ) → a < 2 ^ m.degree → power_modulo m a 1 ≡ a
unfolding power_modulo
power-first m is a low = product_modulo_commutes m 1 a ∙ product_modulo-one m is a low

pub power-none : (m : Modulus) (a : ℕ) → power_modulo m a 0 ≡ 1
unfolding power_modulo
power-none m a = refl

-- the power in the field that the modulus makes
pub field_power : (m : Modulus) (x n : ℕ) → power (field_modulo m) x n ≡ power_modulo m x n
unfolding power_modulo
field_power m x zero = refl
field_power m x (suc n) = ap (λ y. product_modulo m y x) (field_power m x n)

same_or_not : (x y : ℕ) → (x ≡ y) ⊎ (x ≢ y)
same_or_not x y = grind arith

-- the next power of g, by one step of division: it computes
abbrev pub next : Modulus → ℕ → ℕ → ℕ
next m g a = reduction m 1 (binary_product g a)

-- the n powers of g from a on
abbrev pub powers_from : Modulus → ℕ → ℕ → ℕ → List ℕ
powers_from m g zero a = []
powers_from m g (suc n) a = a ∷ powers_from m g n (next m g a)

-- the power that is n places after a
abbrev power_after : Modulus → ℕ → ℕ → ℕ → ℕ
power_after m g zero a = a
power_after m g (suc n) a = power_after m g n (next m g a)

-- the numbers of the set and the n powers of g from a on, as the binary digits of one number
abbrev powers_seen : Modulus → ℕ → ℕ → ℕ → ℕ → ℕ
powers_seen m g zero a seen = seen
powers_seen m g (suc n) a seen = powers_seen m g n (next m g a) (bit_or seen (2 ^ a))

module _ (m : Modulus) (is : HasDegree m) (g : ℕ) (small : g < 2 ^ 2) where
  next-is : (j : ℕ) → next m g (power_modulo m g j) ≡ power_modulo m g (suc j)
  unfolding power_modulo
  next-is j =
      let a : ℕ = power_modulo m g j in
      let low : binary_product g a < 2 ^ (m.degree + 1) =
      subst (λ x. x < 2 ^ (m.degree + 1)) (sym (product-below m.degree a g (power-lt m is g j)) ∙ product_commutes a g)
      (below-lt m.degree a g 1 small) in
      same_as_product_modulo m is a g (next m g a) (reduction-lt m is 1 (binary_product g a) low)
      (subst (λ x. IsCongruent m x (next m g a)) (product_commutes g a) (reduction_congruent m 1 (binary_product g a)))

  power_after-is : (n j : ℕ) → power_after m g n (power_modulo m g j) ≡ power_modulo m g (n + j)
  power_after-is zero j = ap (power_modulo m g) (omega arith)
  power_after-is (suc n) j =
      ap (power_after m g n) (next-is j) ∙ power_after-is n (suc j) ∙ ap (power_modulo m g) (omega arith)

  pub power_listed : (n j i d : ℕ) → i < n → get_or (powers_from m g n (power_modulo m g j)) i d ≡ power_modulo m g (j + i)
  power_listed zero j i d below = absurd (omega arith)
  power_listed (suc n) j zero d below = ap (power_modulo m g) (omega arith)
  power_listed (suc n) j (suc i) d below =
      ap (λ a. get_or (powers_from m g n a) i d) (next-is j)
      ∙ power_listed n (suc j) i d (omega arith)
      ∙ ap (power_modulo m g) (omega arith)

  power_from_seen : (n j seen x : ℕ) → bit_at (powers_seen m g n (power_modulo m g j) seen) x ≡ 1 → (bit_at seen x ≡ 1) ⊎ ((i : ℕ) × (power_modulo m g i ≡ x))
  power_from_seen zero j seen x h = inl h
  power_from_seen (suc n) j seen x h =
      let a : ℕ = power_modulo m g j in
      let more : ℕ = bit_or seen (2 ^ a) in
      elim (power_from_seen n (suc j) more x (subst (λ y. bit_at (powers_seen m g n y more) x ≡ 1) (next-is j) h)) [
        | inr found ↦ inr found
        | inl in_more ↦ elim (same_or_not x a) [
          | inl same ↦ inr (j, sym same)
          | inr other ↦
              let both = bit_at_or seen (2 ^ a) x in
              let none = bit_at-pow_other a x other in
              inl (omega arith)
        ]
      ]

-- a generator: its powers are all nonzero elements, and come back to 1
pub record IsGenerator (m : Modulus) (g : ℕ) : Type 0 where
  pub small : g < 2 ^ 2
  pub all : powers_seen m g (2 ^ m.degree - 1) 1 0 ≡ 2 ^ (2 ^ m.degree) - 2 ^ 1
  pub back : power_after m g (2 ^ m.degree - 1) 1 ≡ 1

module _ (m : Modulus) (is : HasDegree m) (g : ℕ) (generates : IsGenerator m g) where
  -- each nonzero element is a power of the generator
  is_power : (a : ℕ) → a < 2 ^ m.degree → a ≢ 0 → (i : ℕ) × (power_modulo m g i ≡ a)
  unfolding power_modulo
  is_power a low nonzero =
      let digit : bit_at (powers_seen m g (2 ^ m.degree - 1) 1 0) a ≡ 1 =
      ap (λ x. bit_at x a) generates.all ∙ bit_at_mask_inside 1 (2 ^ m.degree) a (omega arith) low in
      elim (power_from_seen m is g generates.small (2 ^ m.degree - 1) 0 0 a digit) [
        | inl none ↦ absurd (omega (arith, bit_at-zero a))
        | inr found ↦ found
      ]

  -- after them the powers come back to 1
  pub order : power_modulo m g (2 ^ m.degree - 1) ≡ 1
  unfolding power_modulo
  order =
      ap (power_modulo m g) (sym (add-zero (2 ^ m.degree - 1)))
      ∙ sym (power_after-is m is g generates.small (2 ^ m.degree - 1) 0)
      ∙ generates.back

  power_is_one : (a : ℕ) → a < 2 ^ m.degree → a ≢ 0 → power_modulo m a (2 ^ m.degree - 1) ≡ 1
  power_is_one a low nonzero =
      let found = is_power a low nonzero in
      ap (λ x. power_modulo m x (2 ^ m.degree - 1)) (sym found.1)
      ∙ power-powers_swap m is g found.0 (2 ^ m.degree - 1)
      ∙ ap (λ x. power_modulo m x found.0) order
      ∙ power-one m is found.0

  inverse : (a : ℕ) → a < 2 ^ m.degree → a ≢ 0 → product_modulo m a (power_modulo m a (2 ^ m.degree - 2)) ≡ 1
  unfolding power_modulo
  inverse a low nonzero =
      let one = one-lt m is in
      let exponent : suc (2 ^ m.degree - 2) ≡ 2 ^ m.degree - 1 = omega arith in
      product_modulo_commutes m a (power_modulo m a (2 ^ m.degree - 2))
      ∙ ap (power_modulo m a) exponent
      ∙ power_is_one a low nonzero

  pub field_modulo_is_field : IsField (field_modulo m)
  field_modulo_is_field = record {
    zero_element = pow_pos m.degree;
    one_element = one-lt m is;
    add_element = λ a b p q. xor_lt m.degree a b p q;
    mul_element = λ a b p q. product_modulo-lt m is a b;
    inv_element = λ a p. power-lt m is a (2 ^ m.degree - 2);
    add_commutes = sum_commutes;
    add_associates = sum_associates;
    add_zero = sum-zero_right;
    add_self = sum-self;
    mul_commutes = product_modulo_commutes m;
    mul_associates = product_modulo_associates m is;
    mul_distributes = product_modulo_distributes m is;
    mul_one = product_modulo-one m is;
    mul_inverse = inverse;
    distinct = λ e. absurd (omega arith);
  }

pub byte_degree : HasDegree byte_modulus
byte_degree = record { at_least = lit≤ tt; below = lit< tt; positive = lit< tt }

pub word_degree : HasDegree word_modulus
word_degree = record { at_least = lit≤ tt; below = lit< tt; positive = lit< tt }

-- the powers of 3 are the nonzero bytes
pub byte_generator : IsGenerator byte_modulus 3
byte_generator = record { small = lit< tt; all = refl; back = refl }

-- the powers of 2 are the nonzero words
pub word_generator : IsGenerator word_modulus 2
word_generator = record { small = lit< tt; all = refl; back = refl }

pub byte_field_is_field : IsField byte_field
byte_field_is_field = field_modulo_is_field byte_modulus byte_degree 3 byte_generator

pub word_field_is_field : IsField word_field
word_field_is_field = field_modulo_is_field word_modulus word_degree 2 word_generator
