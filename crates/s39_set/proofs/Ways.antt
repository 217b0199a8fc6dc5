-- In how many ways things can be chosen.
use Rattle.std.proofs.Common.{◌≡◌, ◌≢◌, ℕ, zero, suc, ◌+◌, ◌-◌, ◌*◌, ◌<◌, ◌≤◌, min, get_or, List, [], ◌∷◌, replicate}
use Rattle.std.proofs.Common.{inl, inr, refl, ap, ◌∙◌, arith}
use Rattle.std.proofs.lemmas.Bool.{cases_lt}
use Rattle.std.proofs.Math.Nat.{le-mul_of_pos_right}
use Rattle.s39_set.specs.Counting.{ways, choices, AreWays, most_counted, most_counts}

-- none can be chosen in one way
pub ways-none : (uses : List ℕ) → ways uses 0 ≡ 1
ways-none [] = refl
ways-none (here ∷ others) = refl

-- with a thing more it is left, or chosen
pub choices-more : (things chosen : ℕ) → choices (suc things) (suc chosen) ≡ choices things (suc chosen) + choices things chosen
choices-more things chosen = omega arith

-- ---- numbers up to a greatest one

module _ (most : ℕ) where
  product_first : (a b : ℕ) → min (min a most * b) most ≡ min (a * b) most
  product_first a zero = omega arith
  product_first a (suc b) =
      elim (cases_lt most a) [
        | inl over ↦
            (let same : min a most ≡ most = omega arith in
            let both : min (most * suc b) most ≡ min (a * suc b) most =
            omega (arith, le-mul_of_pos_right {m = suc b} most (omega arith), le-mul_of_pos_right {m = suc b} a (omega arith)) in
            ap (λ x. min (x * suc b) most) same ∙ both)
        | inr within ↦ (let same : min a most ≡ a = omega arith in ap (λ x. min (x * suc b) most) same)
      ]

  product_both : (a b : ℕ) → min (min a most * min b most) most ≡ min (a * b) most
  product_both a b =
      let second : min (min b most * a) most ≡ min (b * a) most = product_first b a in
      let first : min (min a most * min b most) most ≡ min (a * min b most) most = product_first a (min b most) in
      omega arith

  -- a sum with a product, from what is kept of its numbers
  pub kept_sum : (a b c : ℕ) → min (min a most + min b most * min c most) most ≡ min (a + b * c) most
  kept_sum a b c = let product = product_both b c in omega arith

-- ---- parts of a list by their length

-- the sum of what each part of a list with this number of elements gives, by its length
abbrev pub sum_of_parts : ℕ → (ℕ → ℕ) → ℕ
sum_of_parts zero f = f 0
sum_of_parts (suc n) f = sum_of_parts n (λ long. f (suc long)) + sum_of_parts n f

-- where only the empty part and those of one length give something
pub two_lengths : (n long : ℕ) (f : ℕ → ℕ) → ((other : ℕ) → other ≢ long → f (suc other) ≡ 0)
    → sum_of_parts n f ≡ f 0 + choices n (suc long) * f (suc long)
two_lengths zero long f only = omega arith
two_lengths (suc n) zero f only =
    let second : f 2 ≡ 0 = only 1 (omega arith) in
    let with : sum_of_parts n (λ l. f (suc l)) ≡ f 1 + choices n 1 * f 2 = two_lengths n 0 (λ l. f (suc l)) (λ other _. only (suc other) (omega arith)) in
    let without : sum_of_parts n f ≡ f 0 + choices n 1 * f 1 = two_lengths n 0 f only in
    let none : choices n 0 ≡ 1 = ways-none (replicate n 1) in
    let gone : choices n 1 * f 2 ≡ choices n 1 * 0 = ap (λ z. choices n 1 * z) second in
    let more : choices (suc n) 1 * f 1 ≡ (choices n 1 + 1) * f 1 = ap (λ z. z * f 1) (choices-more n 0 ∙ ap (λ z. choices n 1 + z) none) in
    omega arith
two_lengths (suc n) (suc long) f only =
    let first : f 1 ≡ 0 = only 0 (omega arith) in
    let with : sum_of_parts n (λ l. f (suc l)) ≡ f 1 + choices n (suc long) * f (suc (suc long)) =
    two_lengths n long (λ l. f (suc l)) (λ other apart. only (suc other) (λ same. apart (omega arith))) in
    let without : sum_of_parts n f ≡ f 0 + choices n (suc (suc long)) * f (suc (suc long)) = two_lengths n (suc long) f only in
    let more : choices (suc n) (suc (suc long)) * f (suc (suc long)) ≡ (choices n (suc (suc long)) + choices n (suc long)) * f (suc (suc long)) =
    ap (λ z. z * f (suc (suc long))) (choices-more n (suc long)) in
    omega arith

-- where only the empty part does
pub one_length : (n : ℕ) (f : ℕ → ℕ) → ((other : ℕ) → f (suc other) ≡ 0) → sum_of_parts n f ≡ f 0
one_length n f none =
    let first : f 1 ≡ 0 = none 0 in
    let both : sum_of_parts n f ≡ f 0 + choices n 1 * f 1 = two_lengths n 0 f (λ other _. none other) in
    let gone : choices n 1 * f 1 ≡ choices n 1 * 0 = ap (λ z. choices n 1 * z) first in
    omega arith

-- ---- tables

-- what a table tells of a number of parts, with a part more that can be used in so many ways
abbrev pub with_part : List ℕ → ℕ → ℕ → ℕ
with_part table uses chosen = min (get_or table chosen 0 + uses * get_or table (chosen - 1) 0) most_counted

-- the table of these numbers tells the ways with one part more
pub table_with_part : (table others : List ℕ) (uses more : ℕ) (new : List ℕ) → AreWays table others → uses ≡ min more most_counted
    → get_or new 0 0 ≡ get_or table 0 0 → ((chosen : ℕ) → 1 ≤ chosen → chosen < most_counts → get_or new chosen 0 ≡ with_part table uses chosen)
    → AreWays new (more ∷ others)
table_with_part table others uses more new are uses_are none each zero below = none ∙ are 0 below ∙ ap (λ n. min n most_counted) (ways-none others)
table_with_part table others uses more new are uses_are none each (suc chosen) below =
    let one_less : suc chosen - 1 ≡ chosen = omega arith in
    each (suc chosen) (omega arith) below
    ∙ ap (λ n. min (get_or table (suc chosen) 0 + uses * get_or table n 0) most_counted) one_less
    ∙ ap (λ n. min (n + uses * get_or table chosen 0) most_counted) (are (suc chosen) below)
    ∙ ap (λ n. min (min (ways others (suc chosen)) most_counted + uses * n) most_counted) (are chosen (omega arith))
    ∙ ap (λ n. min (min (ways others (suc chosen)) most_counted + n * min (ways others chosen) most_counted) most_counted) uses_are
    ∙ kept_sum most_counted (ways others (suc chosen)) more (ways others chosen)
