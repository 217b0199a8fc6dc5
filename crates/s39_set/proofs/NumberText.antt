-- The decimal form of a number below 100.
use Rattle.std.proofs.Common.{◌≡◌, ◌≢◌, ℕ, ◌+◌, ◌-◌, ◌*◌, ◌/◌, ◌%◌, ◌<◌, ◌≤◌, ◌==◌, false, List, [], ◌∷◌, ◌++◌, length, get_or}
use Rattle.std.proofs.Common.{sym, ap, ap₂, ◌∙◌, subst, inl, inr, arith}
use Rattle.std.proofs.lemmas.Bool.{cases_lt, ne_eqb}
use Rattle.std.proofs.lemmas.Fmt.{decimal_digit, decimal_step}
use Rattle.std.proofs.lemmas.List.Elements.{All-nil, All-cons}
use Rattle.std.specs.Fmt.{decimal}
use Rattle.s39_lists.proofs.Splits.{IsWithout}

two_digits : (n : ℕ) → 10 ≤ n → n < 100 → decimal n ≡ (48 + n / 10) ∷ (48 + n % 10) ∷ []
two_digits n high low = decimal_step n high (omega arith) ∙ ap (λ digits. digits ++ (48 + n % 10) ∷ []) (decimal_digit (n / 10) (omega arith))

-- it has digits alone
pub decimal-without : (n byte : ℕ) → n < 100 → ((digit : ℕ) → 48 ≤ digit → digit < 58 → digit ≢ byte) → IsWithout byte (decimal n)
decimal-without n byte low other =
    let none : IsWithout byte [] = All-nil (λ b. (b == byte) ≡ false) in
    let no : (digit : ℕ) → 48 ≤ digit → digit < 58 → (digit == byte) ≡ false = λ digit from below. ne_eqb digit byte (other digit from below) in
    elim (cases_lt n 10) [
      | inl below ↦ subst (IsWithout byte) (sym (decimal_digit n below))
          (All-cons (λ b. (b == byte) ≡ false) (48 + n) [] (no (48 + n) (omega arith) (omega arith)) none)
      | inr high ↦ subst (IsWithout byte) (sym (two_digits n high low))
          (All-cons (λ b. (b == byte) ≡ false) (48 + n / 10) ((48 + n % 10) ∷ []) (no (48 + n / 10) (omega arith) (omega arith))
          (All-cons (λ b. (b == byte) ≡ false) (48 + n % 10) [] (no (48 + n % 10) (omega arith) (omega arith)) none))
    ]

-- what it looks like, in its bytes
pub record Looks (text : List ℕ) (n : ℕ) : Type 0 where
  pub shortest : 1 ≤ length text
  pub longest : length text ≤ 2
  pub one : length text < 2 → (get_or text 0 0 ≡ 48 + n) × (n < 10)
  pub two : 2 ≤ length text → (get_or text 0 0 ≡ 48 + n / 10) × (get_or text 1 0 ≡ 48 + n % 10) × (10 ≤ n)

pub looks : (text : List ℕ) (n : ℕ) → n < 100 → text ≡ decimal n → Looks text n
looks text n low e =
    elim (cases_lt n 10) [
      | inl below ↦ (let same : text ≡ (48 + n) ∷ [] = e ∙ decimal_digit n below in
          let l : length text ≡ 1 = ap length same in
          let first : get_or text 0 0 ≡ 48 + n = ap (λ t. get_or t 0 0) same in
          record { shortest = omega arith; longest = omega arith; one = λ _. (first, below); two = λ long. absurd (omega arith) })
      | inr high ↦ (let same : text ≡ (48 + n / 10) ∷ (48 + n % 10) ∷ [] = e ∙ two_digits n high low in
          let l : length text ≡ 2 = ap length same in
          let first : get_or text 0 0 ≡ 48 + n / 10 = ap (λ t. get_or t 0 0) same in
          let second : get_or text 1 0 ≡ 48 + n % 10 = ap (λ t. get_or t 1 0) same in
          record { shortest = omega arith; longest = omega arith; one = λ short. absurd (omega arith); two = λ _. (first, second, high) })
    ]

pub text_of_one : (text : List ℕ) → length text ≡ 1 → 48 ≤ get_or text 0 0 → get_or text 0 0 < 58 → text ≡ decimal (get_or text 0 0 - 48)
text_of_one [] l from below = absurd (omega arith)
text_of_one (x ∷ []) l from below =
    let same : 48 + (x - 48) ≡ x = omega arith in
    ap (λ y. y ∷ []) (sym same) ∙ sym (decimal_digit (x - 48) (omega arith))
text_of_one (x ∷ y ∷ ys) l from below = absurd (omega arith)

pub text_of_two : (text : List ℕ) → length text ≡ 2 → 49 ≤ get_or text 0 0 → get_or text 0 0 < 58 → 48 ≤ get_or text 1 0 → get_or text 1 0 < 58
    → text ≡ decimal (10 * (get_or text 0 0 - 48) + (get_or text 1 0 - 48))
text_of_two [] l from below from' below' = absurd (omega arith)
text_of_two (x ∷ []) l from below from' below' = absurd (omega arith)
text_of_two (x ∷ y ∷ []) l from below from' below' =
    let n = 10 * (x - 48) + (y - 48) in
    let tens : x ≡ 48 + n / 10 = omega arith in
    let ones : y ≡ 48 + n % 10 = omega arith in
    ap₂ (λ (a b : ℕ). a ∷ b ∷ []) tens ones ∙ sym (two_digits n (omega arith) (omega arith))
text_of_two (x ∷ y ∷ z ∷ zs) l from below from' below' = absurd (omega arith)
