-- Division by the generator in one number: the register of thirty binary digits.
use Rattle.std.proofs.Common.{◌≡◌, ℕ, zero, suc, ◌+◌, ◌*◌, ◌/◌, ◌%◌, ◌^◌, ◌<◌, [], ◌∷◌, get_or, refl, sym, ap, subst, ◌∙◌, ⊎_elim, arith, bit_and}
use Rattle.std.specs.Prelude.{All, bit_xor}
use Rattle.std.proofs.lemmas.Nat.{xor_block, xor_lt, and_mask, mod-pow-add, mod_below, pow_pos}
use Rattle.std.proofs.lemmas.Bool.{cases_eq}
use Rattle.std.proofs.lemmas.List.Elements.{All-nil, All-cons}
use Rattle.std.proofs.Math.Nat.{mod-eq_of_lt}
use Rattle.std.proofs.Math.Pow.{pow-lt}
use Rattle.s39_field.specs.FieldProduct.{word_field, product_modulo}
use Rattle.s39_field.specs.Field.{IsField}
use Rattle.s39_field.specs.Theory.Powers.{word_field_is_field}
use Rattle.s39_words.specs.declared.checksum.TheConstants.{GENERATOR_TIMES}
use Rattle.s39_words.specs.Layout.{IsIndex, word_bits}
use Rattle.s39_words.specs.Division.{Remainder, packed, unpacked, generator_times, next_remainder}
use Rattle.s39_words.proofs.Remainders.{AreElements, AreElements-next}

axioms : IsField word_field
axioms = word_field_is_field

-- ---- the ten constants

-- each is the multiple that its place says
pub constant-is : (i : ℕ) → i < word_bits → get_or GENERATOR_TIMES i 0 ≡ packed (generator_times (2 ^ i))
unfolding product_modulo
constant-is zero l = refl
constant-is (suc zero) l = refl
constant-is (suc (suc zero)) l = refl
constant-is (suc (suc (suc zero))) l = refl
constant-is (suc (suc (suc (suc zero)))) l = refl
constant-is (suc (suc (suc (suc (suc zero))))) l = refl
constant-is (suc (suc (suc (suc (suc (suc zero)))))) l = refl
constant-is (suc (suc (suc (suc (suc (suc (suc zero))))))) l = refl
constant-is (suc (suc (suc (suc (suc (suc (suc (suc zero)))))))) l = refl
constant-is (suc (suc (suc (suc (suc (suc (suc (suc (suc zero))))))))) l = refl
constant-is (suc (suc (suc (suc (suc (suc (suc (suc (suc (suc i)))))))))) l = absurd (omega arith)

-- ---- packed remainders

-- the sum of two remainders
abbrev pub sum_of_remainders : Remainder → Remainder → Remainder
sum_of_remainders r s = record {
  square = bit_xor r.square s.square;
  linear = bit_xor r.linear s.linear;
  constant = bit_xor r.constant s.constant;
}

pub packed-sum : (r s : Remainder) → AreElements r → AreElements s → bit_xor (packed r) (packed s) ≡ packed (sum_of_remainders r s)
packed-sum r s a b =
    xor_block 10 (r.square * 1024 + r.linear) (s.square * 1024 + s.linear) r.constant s.constant a.constant b.constant
    ∙ ap (λ n. n * 1024 + bit_xor r.constant s.constant) (xor_block 10 r.square s.square r.linear s.linear a.linear b.linear)

pub unpacked-packed : (r : Remainder) → AreElements r → unpacked (packed r) ≡ r
unpacked-packed r a =
    let s : packed r / 2 ^ 20 ≡ r.square = omega (arith, a.linear, a.constant) in
    let l : packed r / 2 ^ 10 % 2 ^ 10 ≡ r.linear = omega (arith, a.linear, a.constant) in
    let k : packed r % 2 ^ 10 ≡ r.constant = omega (arith, a.constant) in
    let whole : unpacked (packed r) ≡ record { square = r.square; linear = r.linear; constant = r.constant } = cc in
    whole

pub packed-unpacked : (n : ℕ) → packed (unpacked n) ≡ n
packed-unpacked n = omega arith

pub unpacked-elements : (n : ℕ) → n < 2 ^ 30 → AreElements (unpacked n)
unpacked-elements n l = record { square = omega arith; linear = omega arith; constant = omega arith }

pub packed-below : (r : Remainder) → AreElements r → packed r < 2 ^ 30
packed-below r a = omega (arith, a.square, a.linear, a.constant)

-- ---- the generator times an element

pub times-elements : (b : ℕ) → IsIndex b → AreElements (generator_times b)
times-elements b l = record {
  square = axioms.mul_element b 14 l (omega arith);
  linear = axioms.mul_element b 56 l (omega arith);
  constant = axioms.mul_element b 64 l (omega arith);
}

mul_sum : (a b g : ℕ) → word_field.mul (bit_xor a b) g ≡ bit_xor (word_field.mul a g) (word_field.mul b g)
mul_sum a b g =
    axioms.mul_commutes (bit_xor a b) g ∙ axioms.mul_distributes g a b
    ∙ ap (λ x. bit_xor x (word_field.mul g b)) (axioms.mul_commutes g a) ∙ ap (bit_xor (word_field.mul a g)) (axioms.mul_commutes g b)

pub times-sum : (a b : ℕ) → generator_times (bit_xor a b) ≡ sum_of_remainders (generator_times a) (generator_times b)
times-sum a b =
    let s = mul_sum a b 14 in
    let l = mul_sum a b 56 in
    let k = mul_sum a b 64 in
    cc

mul_zero : (g : ℕ) → word_field.mul 0 g ≡ 0
mul_zero g =
    axioms.mul_commutes 0 g ∙ ap (word_field.mul g) (sym (axioms.add_self 0)) ∙ axioms.mul_distributes g 0 0 ∙ axioms.add_self (word_field.mul g 0)

pub times-zero : packed (generator_times 0) ≡ 0
times-zero =
    let s = mul_zero 14 in
    let l = mul_zero 56 in
    let k = mul_zero 64 in
    rw (s, l, k) refl

-- a number in front of k digits
sum_apart : (k a b : ℕ) → b < 2 ^ k → bit_xor (a * 2 ^ k) b ≡ a * 2 ^ k + b
sum_apart k a b l =
    let e = xor_block k a 0 0 b (pow_pos k) l in
    let x : a * 2 ^ k + 0 ≡ a * 2 ^ k = omega arith in
    let y : 0 * 2 ^ k + b ≡ b = omega arith in
    let z : bit_xor 0 b ≡ b = axioms.add_commutes 0 b ∙ axioms.add_zero b in
    ap (λ n. bit_xor n b) (sym x) ∙ ap (bit_xor (a * 2 ^ k + 0)) (sym y) ∙ e ∙ ap (λ n. n * 2 ^ k + bit_xor 0 b) (axioms.add_zero a) ∙ ap (λ n. a * 2 ^ k + n) z

-- the digits below i + 1 are those below i, and the one at i
below_next : (n i : ℕ) → n % 2 ^ (i + 1) ≡ n / 2 ^ i % 2 * 2 ^ i + n % 2 ^ i
below_next n i =
    let e : i + 1 ≡ 1 + i = omega arith in
    ap (λ k. n % 2 ^ k) e ∙ mod-pow-add n 1 i

-- what the code adds up, at the start and at the end
pub times-none : (n : ℕ) → 0 ≡ packed (generator_times (n % 2 ^ 0))
times-none n =
    let e : n % 1 ≡ 0 = omega arith in
    sym (ap (λ m. packed (generator_times m)) e ∙ times-zero)

-- one constant more, where the digit is 1
pub times-more : (n i : ℕ) → i < word_bits → bit_and (n / 2 ^ i) 1 ≡ 1
    → bit_xor (packed (generator_times (n % 2 ^ i))) (get_or GENERATOR_TIMES i 0) ≡ packed (generator_times (n % 2 ^ (i + 1)))
times-more n i l e =
    let m = n % 2 ^ i in
    let digit : n / 2 ^ i % 2 ≡ 1 = sym (and_mask (n / 2 ^ i) 1) ∙ e in
    let power : 2 ^ i < 1024 = pow-lt {i = i} {j = 10} l in
    let small : m < 2 ^ i = mod_below n (2 ^ i) (pow_pos i) in
    let once : 2 ^ i ≡ 1 * 2 ^ i = omega arith in
    let whole : bit_xor m (2 ^ i) ≡ n % 2 ^ (i + 1) =
    axioms.add_commutes m (2 ^ i) ∙ ap (λ x. bit_xor x m) once ∙ sum_apart i 1 m small ∙ ap (λ d. d * 2 ^ i + m) (sym digit) ∙ sym (below_next n i) in
    ap (bit_xor (packed (generator_times m))) (constant-is i l)
    ∙ packed-sum (generator_times m) (generator_times (2 ^ i)) (times-elements m (omega arith)) (times-elements (2 ^ i) power)
    ∙ ap packed (sym (times-sum m (2 ^ i)) ∙ ap generator_times whole)

-- and none, where it is 0
pub times-same : (n i : ℕ) → (bit_and (n / 2 ^ i) 1 ≡ 1 → ⊥) → packed (generator_times (n % 2 ^ i)) ≡ packed (generator_times (n % 2 ^ (i + 1)))
times-same n i e =
    let mask = and_mask (n / 2 ^ i) 1 in
    let digit : n / 2 ^ i % 2 ≡ 0 = ⊎_elim (λ one. absurd (e (mask ∙ one))) (λ other. let h : n / 2 ^ i % 2 < 2 = omega arith in omega (arith, other))
    (cases_eq (n / 2 ^ i % 2) 1) in
    let none : 0 * 2 ^ i + n % 2 ^ i ≡ n % 2 ^ i = omega arith in
    ap (λ m. packed (generator_times m)) (sym (below_next n i ∙ ap (λ d. d * 2 ^ i + n % 2 ^ i) digit ∙ none))

-- ---- a step of the division

-- the register without its highest coefficient, and one more behind it
abbrev moved : ℕ → ℕ → Remainder
moved bits c = record { square = bits / 2 ^ 10 % 2 ^ 10; linear = bits % 2 ^ 10; constant = c }

-- as the code makes it
pub moved-is : (bits c : ℕ) → IsIndex c → bit_xor (bit_and bits 1048575 * 1024 % 4294967296) c ≡ packed (moved bits c)
moved-is bits c k =
    let low : bit_and bits 1048575 ≡ bits % 1048576 = and_mask bits 20 in
    let shifted : bits % 1048576 * 1024 % 4294967296 ≡ bits % 1048576 * 1024 = mod-eq_of_lt (omega arith) in
    let parts : bits % 1048576 * 1024 + c ≡ packed (moved bits c) = omega arith in
    ap (λ n. bit_xor (n * 1024 % 4294967296) c) low ∙ ap (λ n. bit_xor n c) shifted ∙ sum_apart 10 (bits % 1048576) c k ∙ parts

moved-elements : (bits c : ℕ) → IsIndex c → AreElements (moved bits c)
moved-elements bits c k = record { square = omega arith; linear = omega arith; constant = k }

module _ (bits c : ℕ) (l : bits < 2 ^ 30) (k : IsIndex c) (sum : ℕ) (e : sum ≡ packed (generator_times (bits / 2 ^ 20))) where
  highest : IsIndex (bits / 2 ^ 20)
  highest = omega arith

  next : Remainder
  next = sum_of_remainders (moved bits c) (generator_times (bits / 2 ^ 20))

  next-is : bit_xor (bit_xor (bit_and bits 1048575 * 1024 % 4294967296) c) sum ≡ packed (next_remainder (unpacked bits) c)
  next-is =
      ap (λ n. bit_xor n sum) (moved-is bits c k) ∙ ap (bit_xor (packed (moved bits c))) e
      ∙ packed-sum (moved bits c) (generator_times (bits / 2 ^ 20)) (moved-elements bits c k) (times-elements (bits / 2 ^ 20) highest)

  next-elements : AreElements (next_remainder (unpacked bits) c)
  next-elements = AreElements-next (unpacked bits) c (unpacked-elements bits l) k

  pub stepped : unpacked (bit_xor (bit_xor (bit_and bits 1048575 * 1024 % 4294967296) c) sum) ≡ next_remainder (unpacked bits) c
  stepped = ap unpacked next-is ∙ unpacked-packed (next_remainder (unpacked bits) c) next-elements

  pub stepped-below : bit_xor (bit_xor (bit_and bits 1048575 * 1024 % 4294967296) c) sum < 2 ^ 30
  stepped-below = subst (λ n. n < 2 ^ 30) (sym next-is) (packed-below (next_remainder (unpacked bits) c) next-elements)

-- ---- what the code reads from a register

-- the three words of a checksum
pub words-are : (bits : ℕ) → (bits / 1048576 ∷ bit_and (bits / 1024) 1023 ∷ bit_xor (bit_and bits 1023) 1 ∷ [])
    ≡ ((unpacked bits).square ∷ (unpacked bits).linear ∷ bit_xor (unpacked bits).constant 1 ∷ [])
words-are bits =
    let l = and_mask (bits / 1024) 10 in
    let k = and_mask bits 10 in
    ap (λ x. bits / 1048576 ∷ x ∷ bit_xor (bit_and bits 1023) 1 ∷ []) l ∙ ap (λ x. bits / 1048576 ∷ bits / 1024 % 1024 ∷ bit_xor x 1 ∷ []) k

pub words-below : (bits : ℕ) → bits < 2 ^ 30 → All IsIndex (bits / 1048576 ∷ bit_and (bits / 1024) 1023 ∷ bit_xor (bit_and bits 1023) 1 ∷ [])
words-below bits l =
    let r = unpacked bits in
    let a = unpacked-elements bits l in
    let constant = bit_xor r.constant 1 in
    subst (All IsIndex) (sym (words-are bits))
    (All-cons IsIndex r.square (r.linear ∷ constant ∷ []) a.square
    (All-cons IsIndex r.linear (constant ∷ []) a.linear
    (All-cons IsIndex constant [] (xor_lt 10 r.constant 1 a.constant (omega arith)) (All-nil IsIndex))))
