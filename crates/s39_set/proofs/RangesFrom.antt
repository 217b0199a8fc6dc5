-- The numbers of a range from one on that pass a test.
use Rattle.std.proofs.Common.{◌≡◌, ℕ, ◌+◌, ◌-◌, ◌<◌, ◌≤◌, Bool, true, false, cond, List, [], ◌∷◌, ◌++◌, length, filter}
use Rattle.std.proofs.Common.{take, map, All, Less, inl, inr, ap, ◌∙◌, arith, append-nil}
use Rattle.std.specs.List.{range_with_len}
use Rattle.std.proofs.lemmas.Bool.{cond-true, cond-false}
use Rattle.std.proofs.lemmas.List.{length_push}
use Rattle.std.proofs.lemmas.List.Elements.{filter-append}
use Rattle.std.proofs.lemmas.Bool.{cases_Bool}
use Rattle.std.proofs.lemmas.Bool.Decides.{nat_tests}
use Rattle.std.proofs.lemmas.List.FromFn.{get_or-range_with_len, length-range_with_len}
use Rattle.std.proofs.lemmas.List.Elements.{All-filter, All-take, All-map, All-weaker, All-append}
use Rattle.s39_set.specs.Names.{Names, name_cmp}
use Rattle.s39_set.proofs.Ascending.{member-less}
use Rattle.s39_lists.proofs.Ranges.{take_push_short, take_push_full, range-split}

module _ (p : ℕ → Bool) (a j : ℕ) (from : a ≤ j) where
  filter-range_from : filter p (range_with_len a ((j + 1) - a)) ≡ filter p (range_with_len a (j - a)) ++ cond (p j) (j ∷ []) []
  filter-range_from =
      let long : (j + 1) - a ≡ (j - a) + 1 = omega arith in
      let at : a + (j - a) ≡ j = omega arith in
      ap (λ n. filter p (range_with_len a n)) long
      ∙ ap (filter p) (range-split a (j - a) 1)
      ∙ filter-append p (range_with_len a (j - a)) (range_with_len (a + (j - a)) 1)
      ∙ ap (λ k. filter p (range_with_len a (j - a)) ++ filter p (range_with_len k 1)) at

  -- a number that passes is behind those before it
  pub filter-range_from_yes : p j ≡ true → filter p (range_with_len a ((j + 1) - a)) ≡ filter p (range_with_len a (j - a)) ++ j ∷ []
  filter-range_from_yes passes = filter-range_from ∙ ap (λ xs. filter p (range_with_len a (j - a)) ++ xs) (cond-true (p j) (j ∷ []) [] passes)

  -- one that doesn't changes nothing
  pub filter-range_from_no : p j ≡ false → filter p (range_with_len a ((j + 1) - a)) ≡ filter p (range_with_len a (j - a))
  filter-range_from_no fails =
      filter-range_from ∙ ap (λ xs. filter p (range_with_len a (j - a)) ++ xs) (cond-false (p j) (j ∷ []) [] fails)
      ∙ append-nil (filter p (range_with_len a (j - a)))

  pub count_from_yes : p j ≡ true → length (filter p (range_with_len a ((j + 1) - a))) ≡ length (filter p (range_with_len a (j - a))) + 1
  count_from_yes passes = ap length (filter-range_from_yes passes) ∙ length_push (filter p (range_with_len a (j - a))) j

  pub count_from_no : p j ≡ false → length (filter p (range_with_len a ((j + 1) - a))) ≡ length (filter p (range_with_len a (j - a)))
  count_from_no fails = ap length (filter-range_from_no fails)

-- the first so many numbers from a on, below j, that pass
abbrev pub first_from : (ℕ → Bool) → ℕ → ℕ → ℕ → List ℕ
first_from p many a j = take many (filter p (range_with_len a (j - a)))

module _ (p : ℕ → Bool) (many a j : ℕ) (from : a ≤ j) where
  pub first_from_more : p j ≡ true → length (first_from p many a j) < many → first_from p many a (j + 1) ≡ first_from p many a j ++ j ∷ []
  first_from_more passes few = ap (take many) (filter-range_from_yes p a j from passes) ∙ take_push_short many (filter p (range_with_len a (j - a))) j few

  pub first_from_without : p j ≡ false → first_from p many a (j + 1) ≡ first_from p many a j
  first_from_without fails = ap (take many) (filter-range_from_no p a j from fails)

  pub first_from_full : many ≤ length (first_from p many a j) → first_from p many a (j + 1) ≡ first_from p many a j
  first_from_full full =
      elim (cases_Bool (p j)) [
        | inl passes ↦ (ap (take many) (filter-range_from_yes p a j from passes) ∙ take_push_full many (filter p (range_with_len a (j - a))) j full)
        | inr fails ↦ first_from_without fails
      ]

  pub first_from-below : All (λ k. k < j) (first_from p many a j)
  first_from-below =
      All-take (λ k. k < j) many (filter p (range_with_len a (j - a)))
      (All-filter p (λ k. k < j) (range_with_len a (j - a))
      (λ k d below. let short : k < j - a = omega (arith, length-range_with_len a (j - a)) in omega (arith, get_or-range_with_len a (j - a) k d short)))

pub less_up : (g m h a b : ℕ) → name_cmp (g, m) (h, a) ≡ Less → a ≤ b → name_cmp (g, m) (h, b) ≡ Less
less_up g m h a b less up = grind (arith, nat_tests)

-- names before a group's member, and its members from there on, come before the next member
pub all_before_next : (p : ℕ → Bool) (many a j group : ℕ) → a ≤ j → (names : Names) → All (λ n. name_cmp n (group, a) ≡ Less) names
    → All (λ n. name_cmp n (group, j) ≡ Less) (names ++ map (λ member. (group, member)) (first_from p many a j))
all_before_next p many a j group from names earlier =
    All-append (λ n. name_cmp n (group, j) ≡ Less) names (map (λ member. (group, member)) (first_from p many a j))
    (All-weaker (λ n. name_cmp n (group, a) ≡ Less) (λ n. name_cmp n (group, j) ≡ Less) (λ n less. less_up n.0 n.1 group a j less from) names earlier)
    (All-map (λ n. name_cmp n (group, j) ≡ Less) (λ member. (group, member)) (first_from p many a j)
    (All-weaker (λ k. k < j) (λ k. name_cmp (group, k) (group, j) ≡ Less) (λ k less. member-less group k j less) (first_from p many a j)
    (first_from-below p many a j from)))
