-- Names put into masks.
use Rattle.std.proofs.Common.{◌≡◌, ◌<◌, ◌+◌, ℕ, Bool, true, false, List, [], ◌∷◌, ◌++◌, length, get_or, set, Contains, ◌⊎◌, inl, inr}
use Rattle.std.proofs.Common.{sym, ap, subst, ◌∙◌, arith}
use Rattle.std.specs.Prelude.{IsTrue, ◌↔◌}
use Rattle.std.proofs.lemmas.Bool.{cases_eq}
use Rattle.std.proofs.lemmas.List.{get_or-set_same, get_or-set_other}
use Rattle.std.proofs.lemmas.List.Elements.{Contains-append_left, Contains-append_right, Contains-push_cases}
use Rattle.s39_set.specs.declared.masks.Masks.{Masks}
use Rattle.s39_set.specs.Names.{Name, Names, most_members}
use Rattle.s39_set.specs.Masks.{AddsName}
use Rattle.s39_set.specs.Slots.{slot_of}
use Rattle.s39_set.specs.Steps.{AreMasksOf}
use Rattle.s39_lists.proofs.Sublists.{Contains-head}
use Rattle.s39_set.proofs.Slots.{same_name}

-- a flag that is set is a name more
pub adds_name : (flags : List Bool) (name : Name) → slot_of name < length flags → name.1 < most_members → (g m : ℕ) → m < most_members
    → (IsTrue (get_or (set flags (slot_of name) true) (slot_of (g, m)) false) ↔ (IsTrue (get_or flags (slot_of (g, m)) false) ⊎ ((g, m) ≡ name)))
adds_name flags name inside low_name g m low =
    elim (cases_eq (slot_of (g, m)) (slot_of name)) [
      | inl here ↦ (
        (λ _. inr (same_name (g, m) name low low_name here)),
        (λ _. ap (λ k. get_or (set flags (slot_of name) true) k false) here ∙ get_or-set_same flags (slot_of name) true false inside),
      )
      | inr apart ↦ (
          let kept = get_or-set_other flags (slot_of name) (slot_of (g, m)) true false apart in (
            (λ h. inl (sym kept ∙ h)),
            (λ either. elim either [ inl was ↦ kept ∙ was | inr same ↦ absurd (apart (ap slot_of same)) ]),
          ))
    ]

-- masks with one name more
pub masks_more : (old new : Masks) (names : Names) (name : Name) → AreMasksOf old names → AddsName old new name → AreMasksOf new (names ++ name ∷ [])
masks_more old new names name were adds g m low_g low_m = (
  (λ h. elim ((adds g m low_m).0 h) [
    | inl was ↦ Contains-append_left names (name ∷ []) (g, m) ((were g m low_g low_m).0 was)
    | inr same ↦ subst (Contains (names ++ name ∷ [])) (sym same) (Contains-append_right names (name ∷ []) name (Contains-head name []))
  ]),
  (λ among. (adds g m low_m).1 (elim (Contains-push_cases names name (g, m) among) [
    | inl earlier ↦ inl ((were g m low_g low_m).1 earlier)
    | inr last ↦ inr (sym last)
  ])),
)

-- the flags below a slot say which of these names there are
abbrev pub AreFilled : List Bool → Names → ℕ → Type 0
AreFilled flags names n = (g m : ℕ) → m < most_members → slot_of (g, m) < n → (IsTrue (get_or flags (slot_of (g, m)) false) ↔ Contains names (g, m))

pub filled_more : (flags : List Bool) (names : Names) (n : ℕ) (name : Name) (there : Bool) → AreFilled flags names n → n < length flags → slot_of name ≡ n
    → name.1 < most_members → (IsTrue there ↔ Contains names name) → AreFilled (set flags n there) names (n + 1)
filled_more flags names n name there so_far inside at low_name says g m low below =
    elim (cases_eq (slot_of (g, m)) n) [
      | inl here ↦ (
          let same : (g, m) ≡ name = same_name (g, m) name low low_name (here ∙ sym at) in
          let flag : get_or (set flags n there) (slot_of (g, m)) false ≡ there =
          ap (λ k. get_or (set flags n there) k false) here ∙ get_or-set_same flags n there false inside in
          rw (flag, same) says)
      | inr apart ↦ rw (get_or-set_other flags n (slot_of (g, m)) there false apart) (so_far g m low (omega arith))
    ]
