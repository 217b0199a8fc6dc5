-- Hexadecimal digits: where the first bad one is, and those with ERC-55's capitals.
use Rattle.std.proofs.Common.{◌≡◌, ℕ, zero, suc, ◌+◌, ◌*◌, ◌/◌, ◌%◌, ◌<◌, ◌≤◌, Bool, true, false, cond, eqb, nat_lt, List, [], ◌∷◌, Option, Some, None, Ok, Err, length, All, refl, sym, ap, ap₂, ◌∙◌, subst, inl, inr, arith}
use Rattle.std.proofs.lemmas.Bool.{cases_eq, eqb-true}
use Rattle.std.proofs.lemmas.List.Elements.{All-head, All-tail}
use Rattle.hex.specs.declared.error.FromHexError.TheVariants.{InvalidHexCharacter}
use Rattle.hex.specs.Hex.{decode_sized, decode_pairs, hex_digit_value, pair_value}
use Rattle.hex.proofs.Pairs.{cons_byte, decode_pairs-ok_pair, decode_sized-pairs}
use Rattle.hex.proofs.HexLemmas.{decode_sized-odd, decode_sized-other, decode_pairs-err}
use Rattle.addresses.specs.Ethereum.{halves, lower, upper, cased}

-- ---- where a bad digit is

position_is : (c d i k : ℕ) → InvalidHexCharacter c i ≡ InvalidHexCharacter d k → i ≡ k
position_is c d i k h = cc

pub bad_within : (s : List ℕ) (n c i : ℕ) → decode_sized s n ≡ Err (InvalidHexCharacter c i) → i < 2 * n
bad_within s n c i h =
    elim (cases_eq (length s % 2) 1) [
      | inl odd ↦ absurd (cc (sym h ∙ decode_sized-odd s n odd))
      | inr even ↦
          let z : length s % 2 ≡ 0 = omega arith in
          elim (cases_eq (length s / 2) n) [
            | inr apart ↦ absurd (cc (sym h ∙ decode_sized-other s n z apart))
            | inl half ↦
                let bad = decode_pairs-err 0 s (InvalidHexCharacter c i) z (sym (decode_sized-pairs s n z half) ∙ h) in
                omega (arith, position_is _ _ _ _ bad.1, bad.2)
          ]
    ]

-- ---- digits with capitals

abbrev is_value : Option ℕ → ℕ → Bool
is_value None n = false
is_value (Some m) n = eqb m n

value_is : (o : Option ℕ) (n : ℕ) → is_value o n ≡ true → o ≡ Some n
value_is None n h = absurd (cc)
value_is (Some m) n h = ap Some (eqb-true m n h)

agree : ℕ → Bool
agree zero = true
agree (suc n) = cond (is_value (hex_digit_value (upper n)) n) (cond (is_value (hex_digit_value (lower n)) n) (agree n) false) false

parts : (a b c : Bool) → cond a (cond b c false) false ≡ true → (a ≡ true) × (b ≡ true) × (c ≡ true)
parts true true c h = (refl, refl, h)
parts true false c h = absurd (cc)
parts false b c h = absurd (cc)

record AreDigits (n : ℕ) : Type 0 where
  upper_is : hex_digit_value (upper n) ≡ Some n
  lower_is : hex_digit_value (lower n) ≡ Some n

agree_below : (n d : ℕ) → agree n ≡ true → d < n → AreDigits d
unfolding agree
agree_below zero d h l = absurd (omega arith)
agree_below (suc n) d h l =
    let p = parts (is_value (hex_digit_value (upper n)) n) (is_value (hex_digit_value (lower n)) n) (agree n) h in
    elim (cases_eq d n) [
      | inl e ↦ subst AreDigits (sym e) (record { upper_is = value_is _ n p.0; lower_is = value_is _ n p.1 })
      | inr ne ↦ agree_below n d p.2 (omega arith)
    ]

digits : (d : ℕ) → d < 16 → AreDigits d
unfolding agree
digits d l = agree_below 16 d refl l

-- a digit in either case
digit : (b : Bool) (n : ℕ) → n < 16 → hex_digit_value (cond b (upper n) (lower n)) ≡ Some n
digit true n l = (digits n l).upper_is
digit false n l = (digits n l).lower_is

pub cased_pairs : (i : ℕ) (bytes ms : List ℕ) → All (λ b. b < 256) bytes → 2 * length bytes ≤ length ms
    → decode_pairs i (cased (halves bytes) ms) ≡ Ok bytes
unfolding decode_pairs
cased_pairs i [] ms h l = refl
cased_pairs i (b ∷ bytes) [] h l = absurd (omega arith)
cased_pairs i (b ∷ bytes) (m ∷ []) h l = absurd (omega arith)
cased_pairs i (b ∷ bytes) (m ∷ k ∷ ms) h l =
    let small : b < 256 = All-head (λ b. b < 256) b bytes h in
    let one = digit (nat_lt 7 m) (b / 16) (omega arith) in
    let two = digit (nat_lt 7 k) (b % 16) (omega arith) in
    let pair : pair_value (cond (nat_lt 7 m) (upper (b / 16)) (lower (b / 16))) (cond (nat_lt 7 k) (upper (b % 16)) (lower (b % 16))) i
    ≡ Ok (b / 16 * 16 + b % 16) = rw (one, two) refl in
    let whole : b / 16 * 16 + b % 16 ≡ b = omega arith in
    let high = cond (nat_lt 7 m) (upper (b / 16)) (lower (b / 16)) in
    let low = cond (nat_lt 7 k) (upper (b % 16)) (lower (b % 16)) in
    decode_pairs-ok_pair i high low (b / 16 * 16 + b % 16) (cased (halves bytes) ms) pair
    ∙ ap₂ (λ v r. cons_byte v r) whole (cased_pairs (i + 2) bytes ms (All-tail (λ b. b < 256) b bytes h) (omega arith))

pub length-halves : (bytes : List ℕ) → length (halves bytes) ≡ 2 * length bytes
length-halves [] = refl
length-halves (b ∷ bytes) = omega (arith, length-halves bytes)
