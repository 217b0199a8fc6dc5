-- The numbers of a range, and those that pass a test.
use Rattle.std.proofs.Common.{◌≡◌, ◌≢◌, ℕ, zero, suc, ◌+◌, ◌-◌, ◌<◌, ◌≤◌, Bool, true, false, cond, List, [], ◌∷◌, ◌++◌, length, get_or, filter, take}
use Rattle.std.proofs.Common.{refl, sym, ap, ◌∙◌, arith, append-nil, append_assoc, zero-add}
use Rattle.std.specs.List.{All, AllPairs, Contains, range_with_len}
use Rattle.std.proofs.lemmas.Bool.{cond-true, cond-false}
use Rattle.std.proofs.lemmas.List.{map-id, length_push, length-take, take-append-le, take_all}
use Rattle.std.proofs.lemmas.List.Elements.{filter-append}
use Rattle.std.proofs.lemmas.List.FromFn.{map-range_with_len_more, length-range_with_len, get_or-range_with_len}
use Rattle.std.proofs.lemmas.List.Sums.{length-filter, count_by-le-length}

-- the numbers of a range ascend
pub range_from-ascending : (a n : ℕ) → AllPairs (λ i j. i < j) (range_with_len a n)
range_from-ascending a n i j d less within =
    let short : j < n = omega (arith, length-range_with_len a n) in
    omega (arith, get_or-range_with_len a n i d (omega arith), get_or-range_with_len a n j d short)

pub range-ascending : (n : ℕ) → AllPairs (λ a b. a < b) (range_with_len 0 n)
range-ascending n = range_from-ascending 0 n

pub range-distinct : (n : ℕ) → AllPairs (λ a b. a ≢ b) (range_with_len 0 n)
range-distinct n i j d before within = let less = range-ascending n i j d before within in λ same. omega (arith, same)

-- each is from the start on, and below the end
pub range_from-bounds : (a n : ℕ) → All (λ g. (a ≤ g) × (g < a + n)) (range_with_len a n)
range_from-bounds a n k d within =
    let short : k < n = omega (arith, length-range_with_len a n) in
    let at = get_or-range_with_len a n k d short in
    (omega (arith, at), omega (arith, at))

pub range-below : (n : ℕ) → All (λ g. g < n) (range_with_len 0 n)
range-below n k d below = omega (arith, (range_from-bounds 0 n k d below).1)

-- each number between them is one of them
pub Contains-range_from : (a n g : ℕ) → a ≤ g → g < a + n → Contains (range_with_len a n) g
Contains-range_from a n g from below =
    let short : g - a < n = omega arith in
    let at : get_or (range_with_len a n) (g - a) g ≡ g = omega (arith, get_or-range_with_len a n (g - a) g short) in
    (g - a, omega (arith, length-range_with_len a n), at)

pub Contains-range : (n g : ℕ) → g < n → Contains (range_with_len 0 n) g
Contains-range n g below = Contains-range_from 0 n g (omega arith) (omega arith)

-- tests that agree on a range choose the same numbers of it
pub filter-range_agree : (p q : ℕ → Bool) (a k : ℕ) → ((g : ℕ) → a ≤ g → g < a + k → p g ≡ q g) → filter p (range_with_len a k) ≡ filter q (range_with_len a k)
filter-range_agree p q a zero h = refl
filter-range_agree p q a (suc k) h =
    let rest : filter p (range_with_len (a + 1) k) ≡ filter q (range_with_len (a + 1) k) =
    filter-range_agree p q (a + 1) k (λ g from below. h g (omega arith) (omega arith)) in
    rw (h a (omega arith) (omega arith), rest)

-- a range in two parts
pub range-split : (a m n : ℕ) → range_with_len a (m + n) ≡ range_with_len a m ++ range_with_len (a + m) n
range-split a zero n =
    let none : a + 0 ≡ a = omega arith in
    ap (range_with_len a) (zero-add n) ∙ ap (λ b. range_with_len b n) (sym none)
range-split a (suc m) n =
    let long : suc m + n ≡ suc (m + n) = omega arith in
    let next : (a + 1) + m ≡ a + suc m = omega arith in
    ap (range_with_len a) long ∙ ap (λ l. a ∷ l) (range-split (a + 1) m n ∙ ap (λ b. range_with_len (a + 1) m ++ range_with_len b n) next)

-- if fewer elements are taken than asked for, one more element is taken
pub take_push_short : {X : Type 0} (n : ℕ) (xs : List X) (x : X) → length (take n xs) < n → take n (xs ++ x ∷ []) ≡ take n xs ++ x ∷ []
take_push_short n xs x short =
    let few : length xs < n = omega (arith, length-take n xs) in
    take_all n (xs ++ x ∷ []) (omega (arith, length_push xs x)) ∙ ap (λ ys. ys ++ x ∷ []) (sym (take_all n xs (omega arith)))

-- if as many are taken as asked for, it isn't taken
pub take_push_full : {X : Type 0} (n : ℕ) (xs : List X) (x : X) → n ≤ length (take n xs) → take n (xs ++ x ∷ []) ≡ take n xs
take_push_full n xs x full = take-append-le n xs (x ∷ []) (omega (arith, length-take n xs))

-- one more number stands behind the others
range_more : (n : ℕ) → range_with_len 0 (n + 1) ≡ range_with_len 0 n ++ n ∷ []
range_more n =
    sym (map-id (range_with_len 0 (n + 1)))
    ∙ map-range_with_len_more (λ k. k) 0 n n (omega arith)
    ∙ ap (λ xs. xs ++ n ∷ []) (map-id (range_with_len 0 n))

module _ (p : ℕ → Bool) (n : ℕ) where
  pub filter-range_more : filter p (range_with_len 0 (n + 1)) ≡ filter p (range_with_len 0 n) ++ cond (p n) (n ∷ []) []
  filter-range_more = ap (filter p) (range_more n) ∙ filter-append p (range_with_len 0 n) (n ∷ [])

  -- a number that passes stands behind those before it that pass
  pub filter-range_more_yes : p n ≡ true → filter p (range_with_len 0 (n + 1)) ≡ filter p (range_with_len 0 n) ++ n ∷ []
  filter-range_more_yes passes = filter-range_more ∙ ap (λ xs. filter p (range_with_len 0 n) ++ xs) (cond-true (p n) (n ∷ []) [] passes)

  -- a number that doesn't pass changes nothing
  pub filter-range_more_no : p n ≡ false → filter p (range_with_len 0 (n + 1)) ≡ filter p (range_with_len 0 n)
  filter-range_more_no fails =
      filter-range_more ∙ ap (λ xs. filter p (range_with_len 0 n) ++ xs) (cond-false (p n) (n ∷ []) [] fails) ∙ append-nil (filter p (range_with_len 0 n))

  -- a number that passes adds one to the count
  pub length-filter-range_more_yes : p n ≡ true → length (filter p (range_with_len 0 (n + 1))) ≡ length (filter p (range_with_len 0 n)) + 1
  length-filter-range_more_yes passes = ap length (filter-range_more_yes passes) ∙ length_push (filter p (range_with_len 0 n)) n

  -- and another number adds none
  pub length-filter-range_more_no : p n ≡ false → length (filter p (range_with_len 0 (n + 1))) ≡ length (filter p (range_with_len 0 n))
  length-filter-range_more_no fails = ap length (filter-range_more_no fails)

  -- no more numbers pass than there are
  pub length-filter-range-le : length (filter p (range_with_len 0 n)) ≤ n
  length-filter-range-le = omega (arith, length-filter p (range_with_len 0 n), count_by-le-length p (range_with_len 0 n), length-range_with_len 0 n)

module _ (p : ℕ → Bool) (n total : ℕ) where
  -- a number that passes stands between the others that do
  pub filter-range_parts : n < total → p n ≡ true
      → filter p (range_with_len 0 total) ≡ filter p (range_with_len 0 n) ++ n ∷ filter p (range_with_len (n + 1) (total - (n + 1)))
  filter-range_parts low passes =
      let rest = total - (n + 1) in
      let long : total ≡ (n + 1) + rest = omega arith in
      let whole = ap (range_with_len 0) long ∙ range-split 0 (n + 1) rest in
      let start : 0 + (n + 1) ≡ n + 1 = omega arith in
      let later = filter p (range_with_len (n + 1) rest) in
      ap (filter p) (whole ∙ ap (λ m. range_with_len 0 (n + 1) ++ range_with_len m rest) start)
      ∙ filter-append p (range_with_len 0 (n + 1)) (range_with_len (n + 1) rest)
      ∙ ap (λ xs. xs ++ later) (filter-range_more_yes p n passes)
      ∙ append_assoc (filter p (range_with_len 0 n)) (n ∷ []) later
