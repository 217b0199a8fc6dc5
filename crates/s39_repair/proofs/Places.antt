-- The places of lists that stand side by side, and how many of them pass a test.
use Rattle.std.proofs.Common.{◌≡◌, ◌∙◌, ◌⊎◌, ◌+◌, ◌≤◌, ◌==◌, ℕ, suc, Bool, true, false, cond, not, List, [], ◌∷◌, length, map, zip, inl, refl, arith, ⊎_elim}
use Rattle.std.specs.Prelude.{All, count_by}
use Rattle.std.specs.List.{AllZip}
use Rattle.std.proofs.lemmas.List.Elements.{All-nil, All-cons, All-head, All-tail}
use Rattle.std.proofs.lemmas.List.Recursion.{is_count_by}
use Rattle.std.proofs.lemmas.List.Sums.{sum_by-cons}
use Rattle.s39_words.specs.Mistyping.{count_of_differences}

-- what holds of the parts of any places holds of lists of one length
pub by_places : {A B C : Type 0} (P : List A → List B → List C → Type 0)
    → ((xs : List (A × (B × C))) → P (map (λ x. x.0) xs) (map (λ x. x.1.0) xs) (map (λ x. x.1.1) xs)) → (us : List A) (vs : List B) (ws : List C)
    → length us ≡ length vs → length vs ≡ length ws → P us vs ws
by_places P all [] [] [] m n = all []
by_places P all (u ∷ us) (v ∷ vs) (w ∷ ws) m n =
    by_places (λ xs ys zs. P (u ∷ xs) (v ∷ ys) (w ∷ zs)) (λ xs. all ((u, (v, w)) ∷ xs)) us vs ws (omega (arith, m)) (omega (arith, n))
by_places P all [] (v ∷ vs) ws m n = absurd (omega (arith, m))
by_places P all (u ∷ us) [] ws m n = absurd (omega (arith, m))
by_places P all us [] (w ∷ ws) m n = absurd (omega (arith, n))
by_places P all us (v ∷ vs) [] m n = absurd (omega (arith, n))

module _ {A B C : Type 0} where
  -- the parts of a place
  abbrev pub first : A × (B × C) → A
  first x = x.0

  abbrev pub second : A × (B × C) → B
  second x = x.1.0

  abbrev pub third : A × (B × C) → C
  third x = x.1.1

one_below : (a b c : Bool) → (a ≡ true → (b ≡ true) ⊎ (c ≡ true)) → cond {A = ℕ} a 1 0 ≤ cond {A = ℕ} b 1 0 + cond {A = ℕ} c 1 0
one_below false b c either = omega arith
one_below true true c either = omega arith
one_below true false true either = omega arith
one_below true false false either = ⊎_elim (λ bad. cc) (λ bad. cc) (either refl)

module _ {X : Type 0} where
  -- as many places pass a test as others at most, if each that passes it passes one of them
  pub counts_below : (p q r : X → Bool) (xs : List X) → All (λ x. p x ≡ true → (q x ≡ true) ⊎ (r x ≡ true)) xs
      → count_by p xs ≤ count_by q xs + count_by r xs
  counts_below p q r [] each = omega arith
  counts_below p q r (x ∷ xs) each =
      let here = one_below (p x) (q x) (r x) (All-head (λ y. p y ≡ true → (q y ≡ true) ⊎ (r y ≡ true)) x xs each) in
      let rest = counts_below p q r xs (All-tail (λ y. p y ≡ true → (q y ≡ true) ⊎ (r y ≡ true)) x xs each) in
      omega (arith, here, rest, sum_by-cons (λ y. cond (p y) 1 0) x xs, sum_by-cons (λ y. cond (q y) 1 0) x xs, sum_by-cons (λ y. cond (r y) 1 0) x xs)

  pub fewer : (p q : X → Bool) (xs : List X) → All (λ x. p x ≡ true → q x ≡ true) xs → count_by p xs ≤ count_by q xs
  fewer p q xs each =
      let most = counts_below p q (λ x. false) xs (λ k d lt passes. inl (each k d lt passes)) in
      let none = is_count_by (λ (l : List X). 0) (λ x. false) refl (λ x l. refl) xs in
      omega (arith, most, none)

  pub all_mapped : {Y : Type 0} (P : Y → Type 0) (f : X → Y) (xs : List X) → All P (map f xs) → All (λ x. P (f x)) xs
  all_mapped P f [] all = All-nil (λ x. P (f x))
  all_mapped P f (x ∷ xs) all =
      All-cons (λ y. P (f y)) x xs (All-head P (f x) (map f xs) all) (all_mapped P f xs (All-tail P (f x) (map f xs) all))

counted : {Y : Type 0} (t : Y → Bool) (y : Y) (ys : List Y) → count_by t (y ∷ ys) ≡ cond (t y) (1 + count_by t ys) (count_by t ys)
counted t y ys = sum_by-cons (λ x. cond (t x) 1 0) y ys ∙ by (t y)
  where
    by : (b : Bool) → cond {A = ℕ} b 1 0 + count_by t ys ≡ cond b (1 + count_by t ys) (count_by t ys)
    by true = refl
    by false = omega arith

-- a count over parts of places is one over these
pub count_map : {X Y : Type 0} (f : X → Y) (t : Y → Bool) (xs : List X) → count_by t (map f xs) ≡ count_by (λ x. t (f x)) xs
count_map f t = is_count_by (λ xs. count_by t (map f xs)) (λ x. t (f x)) refl (λ x xs. counted t (f x) (map f xs))

module _ {X Y Z : Type 0} (f : X → Y) (g : X → Z) where
  pub count_zip : (t : Y → Z → Bool) (xs : List X) → count_by (λ p. t p.0 p.1) (zip (map f xs) (map g xs)) ≡ count_by (λ x. t (f x) (g x)) xs
  count_zip t = is_count_by (λ xs. count_by (λ p. t p.0 p.1) (zip (map f xs) (map g xs))) (λ x. t (f x) (g x)) refl
      (λ x xs. counted (λ (p : Y × Z). t p.0 p.1) (f x, g x) (zip (map f xs) (map g xs)))

  pub all_zip : (R : Y → Z → Type 0) (xs : List X) → AllZip R (map f xs) (map g xs) → All (λ x. R (f x) (g x)) xs
  all_zip R [] all = All-nil (λ x. R (f x) (g x))
  all_zip R (x ∷ xs) all = All-cons (λ y. R (f y) (g y)) x xs all.0 (all_zip R xs all.1)

-- and so is the number of places that differ
pub count_differences : {X : Type 0} (f g : X → ℕ) (xs : List X) → count_of_differences (map f xs) (map g xs) ≡ count_by (λ x. not (f x == g x)) xs
count_differences f g = is_count_by (λ xs. count_of_differences (map f xs) (map g xs)) (λ x. not (f x == g x)) refl
    (λ x xs. by (f x == g x) (count_of_differences (map f xs) (map g xs)))
  where
    by : (b : Bool) (n : ℕ) → cond b n (suc n) ≡ cond (not b) (1 + n) n
    by true n = refl
    by false n = omega arith
