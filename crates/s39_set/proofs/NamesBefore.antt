-- Ascending names that all come before another.
use Rattle.std.proofs.Common.{◌≡◌, ℕ, suc, ◌+◌, ◌-◌, ◌*◌, ◌<◌, ◌≤◌, [], ◌∷◌, ◌++◌, length, get_or, All, Less, inl, inr, sym, ap, subst, ◌∙◌, arith}
use Rattle.std.proofs.lemmas.Bool.{cases_lt}
use Rattle.std.proofs.lemmas.List.{get_or_default}
use Rattle.std.proofs.lemmas.Bool.Decides.{nat_tests}
use Rattle.std.proofs.lemmas.List.Elements.{All-head, All-tail, All-push}
use Rattle.std.proofs.lemmas.List.Quantifiers.{all_pairs_push}
use Rattle.s39_set.specs.Names.{Name, Names, name_cmp, IsAscending, AreNames, most_groups, most_members}
use Rattle.s39_set.specs.Slots.{slot_of}
use Rattle.s39_lists.proofs.Pairs.{AllPairs-head, AllPairs-tail}
use Rattle.s39_set.proofs.Ascending.{less_than}

less_slots : (a b c d : ℕ) → b < most_members → name_cmp (a, b) (c, d) ≡ Less → most_members * a + b < most_members * c + d
less_slots a b c d low h = grind (arith, nat_tests)

-- the earlier of two names has the lower slot
slot_of-less : (x y : Name) → x.1 < most_members → name_cmp x y ≡ Less → slot_of x < slot_of y
slot_of-less x y low h = less_slots x.0 x.1 y.0 y.1 low h

length_from_slot : (name : Name) (b : ℕ) (names : Names) → IsAscending names → All (λ x. x.1 < most_members) names → All (λ x. b ≤ slot_of x) names
    → All (λ x. name_cmp x name ≡ Less) names → b ≤ slot_of name → b + length names ≤ slot_of name
length_from_slot name b [] ascending low from earlier first = omega arith
length_from_slot name b (x ∷ xs) ascending low from earlier first =
    let here : b ≤ slot_of x = All-head (λ y. b ≤ slot_of y) x xs from in
    let low_x : x.1 < most_members = All-head (λ y. y.1 < most_members) x xs low in
    let before : slot_of x < slot_of name = slot_of-less x name low_x (All-head (λ y. name_cmp y name ≡ Less) x xs earlier) in
    let rest : suc (slot_of x) + length xs ≤ slot_of name =
    length_from_slot name (suc (slot_of x)) xs
    (AllPairs-tail (λ a b. name_cmp a b ≡ Less) x xs ascending)
    (All-tail (λ y. y.1 < most_members) x xs low)
    (λ k d below. let less = slot_of-less x (get_or xs k d) low_x (AllPairs-head (λ a b. name_cmp a b ≡ Less) x xs ascending k d below) in omega arith)
    (All-tail (λ y. name_cmp y name ≡ Less) x xs earlier)
    before in
    omega arith

-- they are no more than its slot says
pub length_before : (names : Names) (name : Name) → AreNames names → All (λ x. name_cmp x name ≡ Less) names → length names ≤ slot_of name
length_before names name are earlier =
    let most = length_from_slot name 0 names are.ascending are.members (λ k d below. omega arith) earlier (omega arith) in
    omega arith

-- with it behind them they are still names in order
pub are_names_push : (names : Names) (name : Name) → AreNames names → name.0 < most_groups → name.1 < most_members
    → All (λ x. name_cmp x name ≡ Less) names → AreNames (names ++ name ∷ [])
are_names_push names name are group member earlier = record {
  ascending = all_pairs_push (λ a b. name_cmp a b ≡ Less) names name are.ascending earlier;
  groups = All-push (λ x. x.0 < most_groups) names name are.groups group;
  members = All-push (λ x. x.1 < most_members) names name are.members member;
}

-- ascending names all come before a name where the last of them does
pub all_before : (names : Names) (last name : Name) → IsAscending names → 0 < length names → get_or names (length names - 1) last ≡ last
    → name_cmp last name ≡ Less → All (λ x. name_cmp x name ≡ Less) names
all_before names last name ascending some at less k d below =
    elim (cases_lt k (length names - 1)) [
      | inl earlier ↦
          (let before : name_cmp (get_or names k d) (get_or names (length names - 1) d) ≡ Less = ascending k (length names - 1) d earlier (omega arith) in
          let same : get_or names (length names - 1) d ≡ last = get_or_default names (length names - 1) d last (omega arith) ∙ at in
          less_than (get_or names k d) last name (subst (λ n. name_cmp (get_or names k d) n ≡ Less) same before) less)
      | inr here ↦ (let is_last : k ≡ length names - 1 = omega arith in
          let same : get_or names k d ≡ last = ap (λ i. get_or names i d) is_last ∙ get_or_default names (length names - 1) d last (omega arith) ∙ at in
          subst (λ n. name_cmp n name ≡ Less) (sym same) less)
    ]
