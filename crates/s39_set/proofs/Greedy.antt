-- The first list after a given one, of those of a kind of which none goes on where another ends.
use Rattle.std.proofs.Common.{◌≡◌, ◌≢◌, ℕ, suc, ◌+◌, ◌-◌, ◌<◌, ◌∷◌, ◌++◌, length, get_or, take, Less, Greater, inl, inr, sym, ap, subst}
use Rattle.std.proofs.Common.{◌∙◌, arith, length-append, append_assoc}
use Rattle.std.proofs.Math.Seq.{take-append_seam, take-append-add, get_or-append_seam}
use Rattle.std.proofs.lemmas.Bool.{cases_order}
use Rattle.s39_set.specs.Names.{Name, Names, name_cmp, names_cmp}
use Rattle.s39_set.proofs.NamesOrder.{IsBefore, ends, differs, before, cmp-append, first-less, before-not_greater}

module _ (Is : Names → Type 0) (alone : (xs : Names) (z : Name) (zs : Names) → Is xs → Is (xs ++ z ∷ zs) → ⊥) where
  -- nothing greater can stand at a position of a list
  abbrev pub IsFull : Names → ℕ → Type 0
  IsFull names i = (y : Name) (others : Names) → Is (take i names ++ y ∷ others) → name_cmp (get_or names i (0, 0)) y ≡ Less → ⊥

  not_full : (front : Names) (x : Name) (xs : Names) (y : Name) (ys : Names) → Is (front ++ y ∷ ys) → name_cmp x y ≡ Less
      → IsFull (front ++ x ∷ xs) (length front) → ⊥
  not_full front x xs y ys other less full =
      full y ys
      (subst (λ l. Is (l ++ y ∷ ys)) (sym (take-append_seam front (x ∷ xs))) other)
      (subst (λ n. name_cmp n y ≡ Less) (sym (get_or-append_seam front x xs (0, 0))) less)

  inside : (front : Names) (x : Name) (xs : Names) → length front < length (front ++ x ∷ xs)
  inside front x xs = omega (arith, length-append front (x ∷ xs))

  -- after a list that is full at each position none comes
  pub none_after : (given other : Names) → Is given → Is other → ((j : ℕ) → j < length given → IsFull given j) → names_cmp given other ≡ Less → ⊥
  none_after given other is also full less = by (before given other less) is also full
    where
      by : {xs ys : Names} → IsBefore xs ys → Is xs → Is ys → ((j : ℕ) → j < length xs → IsFull xs j) → ⊥
      by (ends front y ys) is also full = alone front y ys is also
      by (differs front x xs y ys less) is also full = not_full front x xs y ys also less (full (length front) (inside front x xs))

  -- the least that can stand at a position comes first, where all later ones are full
  pub first_after : (given other least : Names) (i : ℕ) → Is given → Is other → ((j : ℕ) → i < j → j < length given → IsFull given j)
      → ((y : Name) (others : Names) → Is (take i given ++ y ∷ others) → name_cmp (get_or given i (0, 0)) y ≡ Less
      → names_cmp least (y ∷ others) ≢ Greater)
      → names_cmp given other ≡ Less → names_cmp (take i given ++ least) other ≢ Greater
  first_after given other least i is also full is_least less = by (before given other less) is also full is_least
    where
      by : {xs ys : Names} → IsBefore xs ys → Is xs → Is ys → ((j : ℕ) → i < j → j < length xs → IsFull xs j)
          → ((z : Name) (others : Names) → Is (take i xs ++ z ∷ others) → name_cmp (get_or xs i (0, 0)) z ≡ Less
          → names_cmp least (z ∷ others) ≢ Greater)
          → names_cmp (take i xs ++ least) ys ≢ Greater
      by (ends front y ys) is also full is_least = absurd (alone front y ys is also)
      by (differs front x xs y ys less) is also full is_least =
          let names = front ++ x ∷ xs in
          elim (cases_order i (length front)) [
            | inl here ↦ (
                let same : take i names ≡ front = ap (λ k. take k names) here ∙ take-append_seam front (x ∷ xs) in
                let at : get_or names i (0, 0) ≡ x = ap (λ k. get_or names k (0, 0)) here ∙ get_or-append_seam front x xs (0, 0) in
                subst (λ l. names_cmp (l ++ least) (front ++ y ∷ ys) ≢ Greater) (sym same)
                (rw (cmp-append front least (y ∷ ys))
                (is_least y ys (subst (λ l. Is (l ++ y ∷ ys)) (sym same) also) (subst (λ n. name_cmp n y ≡ Less) (sym at) less))))
            | inr apart ↦ elim apart [
              | inl later ↦ absurd (not_full front x xs y ys also less (full (length front) later (inside front x xs)))
              | inr earlier ↦ (
                  let n = i - (length front + 1) in
                  let longer : i ≡ length front + suc n = omega arith in
                  let same : take i names ≡ front ++ x ∷ take n xs = ap (λ k. take k names) longer ∙ take-append-add front (x ∷ xs) (suc n) in
                  let rest = take n xs ++ least in
                  let first : names_cmp (front ++ x ∷ rest) (front ++ y ∷ ys) ≡ Less =
                  cmp-append front (x ∷ rest) (y ∷ ys) ∙ first-less x y rest ys less in
                  subst (λ l. names_cmp l (front ++ y ∷ ys) ≢ Greater) (sym (ap (λ l. l ++ least) same ∙ append_assoc front (x ∷ take n xs) least))
                  (before-not_greater (front ++ x ∷ rest) (front ++ y ∷ ys) first))
            ]
          ]
