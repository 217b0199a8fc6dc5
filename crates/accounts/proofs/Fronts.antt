-- With which letter a text in Base58Check begins.
use Rattle.std.proofs.Common.{◌≡◌, ℕ, suc, ◌+◌, ◌*◌, ◌^◌, ◌<◌, ◌≤◌, List, [], ◌∷◌, ◌++◌, length, map, get_or, replicate, sym, ap, ◌∙◌, subst, inl, inr, arith}
use Rattle.std.proofs.lemmas.Bool.{cases_lt}
use Rattle.std.proofs.Math.Nat.{pow-le-pow_right, pow-suc, mul-le-mul_right, mul_comm, one-le-pow}
use Rattle.std.specs.Int.Digits.{AllBelowBase, digits_of, number_from_digits, number_from_digits_after}
use Rattle.std.proofs.lemmas.Int.Digits.{number_after_append, number_after_lt, number_digits_of, all_below_base_digits_of, first_digits_of}
use Rattle.std.proofs.lemmas.List.{length-map}
use native.Mathlib.Numerals.{unary_clauses}
use Rattle.base58.specs.Base58.{letter, leading_zeros, base58}

-- ---- bounds of a number by its first digits

pow_none : (b : ℕ) → 1 ≡ b ^ 0
pow_none b = simp unary_clauses

grouped : (n b p : ℕ) → n * b * p ≡ n * (b * p)
grouped n b p = omega arith

-- so many times the base's power is at most the number
least : (b n : ℕ) (ds : List ℕ) → n * b ^ length ds ≤ number_from_digits_after b n ds
least b n [] =
    let e : n * 1 ≡ n = omega arith in
    subst (λ k. n * k ≤ n) (pow_none b) (omega (arith, e))
least b n (d ∷ ds) =
    let P = b ^ length ds in
    let more : n * b * P ≤ (n * b + d) * P = mul-le-mul_right P (omega arith) in
    let same : n * b ^ suc (length ds) ≡ n * b * P = ap (λ k. n * k) (pow-suc b (length ds) ∙ mul_comm P b) ∙ sym (grouped n b P) in
    subst (λ k. k ≤ number_from_digits_after b (n * b + d) ds) (sym same) (omega (arith, more, least b (n * b + d) ds))

-- ---- the first digit

-- A number from e * 58^j up to (e + 1) * 58^j that has the digit d in front of as many digits as L has this digit e, and L is j.
same_digit : (d e L j N : ℕ) → 0 < d → d < 58 → 0 < e → e < 58
    → d * 58 ^ L ≤ N → N < (d + 1) * 58 ^ L → e * 58 ^ j ≤ N → N < (e + 1) * 58 ^ j → (d ≡ e) × (L ≡ j)
same_digit d e L j N d0 d58 e0 e58 h1 h2 h3 h4 =
    elim (cases_lt L j) [
      | inl less ↦
          let up : 58 ^ suc L ≤ 58 ^ j = pow-le-pow_right (omega arith) less in
          let all : (d + 1) * 58 ^ L ≤ 58 * 58 ^ L = mul-le-mul_right (58 ^ L) (omega arith) in
          let one : 1 * 58 ^ j ≤ e * 58 ^ j = mul-le-mul_right (58 ^ j) e0 in
          let s = pow-suc 58 L in
          absurd (omega (arith, up, all, one, s))
      | inr ge ↦ elim (cases_lt j L) [
        | inl more ↦
            let up : 58 ^ suc j ≤ 58 ^ L = pow-le-pow_right (omega arith) more in
            let all : (e + 1) * 58 ^ j ≤ 58 * 58 ^ j = mul-le-mul_right (58 ^ j) (omega arith) in
            let one : 1 * 58 ^ L ≤ d * 58 ^ L = mul-le-mul_right (58 ^ L) d0 in
            let s = pow-suc 58 j in
            absurd (omega (arith, up, all, one, s))
        | inr le ↦
            let here : L ≡ j = omega arith in
            let k1 = subst (λ x. d * 58 ^ x ≤ N) here h1 in
            let k2 = subst (λ x. N < (d + 1) * 58 ^ x) here h2 in
            (digit d e (58 ^ j) N k1 k2 h3 h4, here)
      ]
    ]
  where
    digit : (d e P N : ℕ) → d * P ≤ N → N < (d + 1) * P → e * P ≤ N → N < (e + 1) * P → d ≡ e
    digit d e P N k1 k2 k3 k4 =
        elim (cases_lt d e) [
          | inl less ↦
              let up : (d + 1) * P ≤ e * P = mul-le-mul_right P (omega arith) in
              absurd (omega arith)
          | inr ge ↦ elim (cases_lt e d) [
            | inl more ↦
                let up : (e + 1) * P ≤ d * P = mul-le-mul_right P (omega arith) in
                absurd (omega arith)
            | inr le ↦ omega arith
          ]
        ]

-- ---- the first letter

-- A text begins with this letter, and has so many more.
pub record BeginsWith (c j : ℕ) (text : List ℕ) : Type 0 where
  pub rest : List ℕ
  pub text_is : text ≡ c ∷ rest
  pub count : length rest ≡ j

letters_of : (e j N : ℕ) (ds : List ℕ) → 0 < e → e < 58 → number_from_digits 58 ds ≡ N → AllBelowBase 58 ds → 0 < get_or ds 0 0
    → e * 58 ^ j ≤ N → N < (e + 1) * 58 ^ j → BeginsWith (letter e) j (map letter ds)
letters_of e j N [] e0 e58 is below some low high = absurd (omega (arith, some))
letters_of e j N (d ∷ rest) e0 e58 is below some low high =
    let z : 0 * 58 + d ≡ d = omega arith in
    let number : number_from_digits_after 58 d rest ≡ N = ap (λ k. number_from_digits_after 58 k rest) (sym z) ∙ is in
    let lo : d * 58 ^ length rest ≤ N = subst (λ n. d * 58 ^ length rest ≤ n) number (least 58 d rest) in
    let hi : N < (d + 1) * 58 ^ length rest =
    subst (λ n. n < (d + 1) * 58 ^ length rest) number (number_after_lt 58 d rest below.1) in
    let same = same_digit d e (length rest) j N some below.0 e0 e58 lo hi low high in
    record {
      rest = map letter rest;
      text_is = ap (λ k. letter k ∷ map letter rest) same.0;
      count = length-map rest letter ∙ same.1;
    }

-- the text of bytes whose first ones make the number V, with K behind them
pub first_letter : (e j V K : ℕ) (bytes front rest : List ℕ) → 0 < e → e < 58
    → bytes ≡ front ++ rest → number_from_digits 256 front ≡ V → length rest ≡ K → AllBelowBase 256 rest → leading_zeros bytes ≡ 0
    → e * 58 ^ j ≤ V * 256 ^ K → (V + 1) * 256 ^ K ≤ (e + 1) * 58 ^ j → BeginsWith (letter e) j (base58 bytes)
first_letter e j V K bytes front rest e0 e58 bytes_is v k below zeros low high =
    let N = number_from_digits 256 bytes in
    let number : number_from_digits_after 256 V rest ≡ N =
    sym (ap (number_from_digits 256) bytes_is ∙ number_after_append 256 0 front rest ∙ ap (λ n. number_from_digits_after 256 n rest) v) in
    let lo : V * 256 ^ K ≤ N = subst (λ n. V * 256 ^ K ≤ n) number (subst (λ n. V * 256 ^ n ≤ number_from_digits_after 256 V rest) k (least 256 V rest)) in
    let hi : N < (V + 1) * 256 ^ K =
    subst (λ n. n < (V + 1) * 256 ^ K) number
    (subst (λ n. number_from_digits_after 256 V rest < (V + 1) * 256 ^ n) k (number_after_lt 256 V rest below)) in
    let one : 1 * 58 ^ j ≤ e * 58 ^ j = mul-le-mul_right (58 ^ j) e0 in
    let some : 1 ≤ 58 ^ j = one-le-pow j 58 (omega arith) in
    let positive : 0 < N = omega (arith, one, some, low, lo) in
    let ds = digits_of 58 N in
    let from : e * 58 ^ j ≤ N = omega (arith, low, lo) in
    let to : N < (e + 1) * 58 ^ j = omega (arith, high, hi) in
    subst (λ z. BeginsWith (letter e) j (map letter (replicate z 0 ++ ds))) (sym zeros)
    (letters_of e j N ds e0 e58 (number_digits_of 58 N (omega arith)) (all_below_base_digits_of 58 N (omega arith))
    (first_digits_of 58 N (omega arith) positive) from to)
