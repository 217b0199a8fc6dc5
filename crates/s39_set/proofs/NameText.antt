-- The parts of the written form of a name.
use Rattle.std.proofs.Common.{◌≡◌, ℕ, ◌<◌, List, ◌∷◌, ◌++◌, ap₂, sym, ◌∙◌, arith}
use Rattle.std.specs.Fmt.{decimal}
use Rattle.std.proofs.lemmas.Fmt.{decimal_injective}
use Rattle.s39_lists.proofs.Splits.{cut_once}
use Rattle.s39_set.specs.Names.{Name, most_groups, most_members}
use Rattle.s39_set.specs.Texts.{IsCut}
use Rattle.s39_set.specs.Written.{IsNameText}
use Rattle.s39_set.proofs.NumberText.{decimal-without}

-- a text is cut in one way
pub same_cut : (text : List ℕ) (byte : ℕ) (front back other rest : List ℕ) → IsCut text byte front back → IsCut text byte other rest
    → (front ≡ other) × (back ≡ rest)
same_cut text byte front back other rest is also = cut_once byte front other back rest is.first also.first (sym is.text_is ∙ also.text_is)

-- a name's written form is cut at its full stop in the group and the member
pub cut_of_name : (text : List ℕ) (name : Name) → IsNameText text name → IsCut text 46 (decimal name.0) (decimal name.1)
cut_of_name text name is =
    let low = is.group in
    record { first = decimal-without name.0 46 (omega arith) (λ digit from below e. omega arith); text_is = is.text_is }

-- and those parts make it
pub name_of_cut : (text front back : List ℕ) (name : Name) → IsCut text 46 front back → name.0 < most_groups → name.1 < most_members
    → front ≡ decimal name.0 → back ≡ decimal name.1 → IsNameText text name
name_of_cut text front back name is group member fronts backs = record {
  group = group;
  member = member;
  text_is = is.text_is ∙ ap₂ (λ xs ys. xs ++ 46 ∷ ys) fronts backs;
}

-- a text is the written form of one name
pub same_name : (text : List ℕ) (a b : Name) → IsNameText text a → IsNameText text b → a ≡ b
same_name text a b of_a of_b =
    let parts = same_cut text 46 (decimal a.0) (decimal a.1) (decimal b.0) (decimal b.1) (cut_of_name text a of_a) (cut_of_name text b of_b) in
    ap₂ (λ (x y : ℕ). (x, y)) (same_index a.0 b.0 of_a.group of_b.group parts.0) (same_index a.1 b.1 of_a.member of_b.member parts.1)
  where
    same_index : (m n : ℕ) → m < most_groups → n < most_groups → decimal m ≡ decimal n → m ≡ n
    same_index m n low also e = decimal_injective m n (omega arith) (omega arith) e
