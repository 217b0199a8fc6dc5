-- Whether lists are the same, and whether an element is among others.
use Rattle.std.proofs.Common.{◌≡◌, ◌≢◌, List, [], ◌∷◌, Contains, refl, ap₂, subst, ◌⊎◌, inl, inr}
use Rattle.s39_lists.proofs.Sublists.{Contains-head, Contains-cons, Contains-cases, Contains-nil}

module _ {X : Type 0} (same_or_not : (a b : X) → (a ≡ b) ⊎ (a ≢ b)) where
  -- two lists are one, or they aren't
  pub same_or_other : (xs ys : List X) → (xs ≡ ys) ⊎ (xs ≢ ys)
  same_or_other [] [] = inl refl
  same_or_other [] (y ∷ ys) = inr (λ e. cc)
  same_or_other (x ∷ xs) [] = inr (λ e. cc)
  same_or_other (x ∷ xs) (y ∷ ys) =
      elim (same_or_not x y) [
        | inl same ↦ (elim (same_or_other xs ys) [
          | inl rest ↦ inl (ap₂ (λ (a : X) (l : List X). a ∷ l) same rest)
          | inr other ↦ inr (λ e. (let rest : xs ≡ ys = cc in other rest))
        ])
        | inr other ↦ inr (λ e. (let same : x ≡ y = cc in other same))
      ]

  -- a value is among these, or it isn't
  pub among_or_not : (values : List X) (value : X) → Contains values value ⊎ ¬ Contains values value
  among_or_not [] value = inr (Contains-nil value)
  among_or_not (first ∷ values) value =
      elim (same_or_not first value) [
        | inl same ↦ inl (subst (Contains (first ∷ values)) same (Contains-head first values))
        | inr other ↦ (elim (among_or_not values value) [
          | inl among ↦ inl (Contains-cons first values value among)
          | inr missing ↦ inr (λ (c : Contains (first ∷ values) value).
              elim (Contains-cases first values value c) [ inl same ↦ other same | inr among ↦ missing among ])
        ])
      ]
