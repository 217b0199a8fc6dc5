-- What masks of names say of the names of a group, and which groups are complete.
use Rattle.std.proofs.Common.{◌≡◌, ◌+◌, ◌-◌, ◌<◌, ◌≤◌, ℕ, Bool, false, List, length, get_or, set, filter, All, Contains, Option, Less}
use Rattle.std.proofs.Common.{nat_le, inl, inr, refl, sym, ap, subst, ◌∙◌, arith}
use Rattle.std.specs.List.{range_with_len}
use Rattle.std.specs.Prelude.{IsTrue}
use Rattle.std.specs.Option.{option_map_or}
use Rattle.std.proofs.lemmas.Bool.{cases_eq}
use Rattle.std.proofs.lemmas.Bool.Decides.{nat_tests}
use Rattle.std.proofs.lemmas.List.{get_or-set_same, get_or-set_other}
use Rattle.std.proofs.lemmas.List.Elements.{All-contains}
use Rattle.std.proofs.lemmas.List.Kept.{AllPairs-filter}
use Rattle.s39_set.specs.declared.masks.Masks.{Masks}
use Rattle.s39_set.specs.Names.{Name, Names, name_cmp, IsAscending, names_in_group, most_groups, most_members}
use Rattle.s39_set.specs.Groups.{is_complete}
use Rattle.s39_set.specs.Masks.{is_in}
use Rattle.s39_set.specs.Steps.{AreMasksOf, members_from}
use Rattle.s39_lists.proofs.Sublists.{each, of_filter, Contains-filter}
use Rattle.s39_set.proofs.Ascending.{Precedes, same_names}
use Rattle.s39_set.proofs.Ascending.{member-less}
use Rattle.s39_lists.proofs.Images.{Contains-map, one_of_map}
use Rattle.s39_lists.proofs.Pairs.{AllPairs-map}
use Rattle.s39_lists.proofs.Ranges.{range_from-ascending, range_from-bounds, Contains-range_from}
use Rattle.s39_set.proofs.MembersOf.{of_group, in_group, group-ascending}
use Rattle.s39_set.proofs.Step.{AreAbove}

lower_first : (g m h n : ℕ) → h ≡ g → m < n → name_cmp (g, m) (h, n) ≡ Less
lower_first g m h n same less = grind (arith, nat_tests)

pub higher_member : (g m h n : ℕ) → g ≡ h → name_cmp (h, m) (g, n) ≡ Less → m < n
higher_member g m h n same less = grind (arith, nat_tests)

module _ (masks : Masks) (names : Names) (masks_are : AreMasksOf masks names) (low : All (λ n. n.1 < most_members) names) (g : ℕ)
    (low_g : g < most_groups) where
  -- the members of a group from one on in the masks are names of the group
  listed : (a : ℕ) (n : Name) → Contains (members_from masks g a) n → Contains names n × (n.0 ≡ g) × (a ≤ n.1)
  listed a n among =
      let numbers = range_with_len a (most_members - a) in
      let (m, held, same) = one_of_map (λ k. (g, k)) (filter (is_in masks g) numbers) n among in
      let (in_range, bit) = of_filter (is_in masks g) numbers m held in
      let bounds = All-contains (λ k. (a ≤ k) × (k < a + (most_members - a))) numbers m (range_from-bounds a (most_members - a)) in_range in
      let small : m < most_members = omega (arith, bounds.0, bounds.1) in
      subst (λ (k : Name). Contains names k × (k.0 ≡ g) × (a ≤ k.1)) same ((masks_are g m low_g small).0 bit, refl, bounds.0)

  -- and all that there are from it on
  lists : (a : ℕ) (n : Name) → Contains names n → n.0 ≡ g → a ≤ n.1 → Contains (members_from masks g a) n
  lists a n among same from =
      let numbers = range_with_len a (most_members - a) in
      let small : n.1 < most_members = All-contains (λ m. m.1 < most_members) names n low among in
      let as_pair : (g, n.1) ≡ n = ap (λ h. (h, n.1)) (sym same) in
      let bit : IsTrue (is_in masks g n.1) = (masks_are g n.1 low_g small).1 (subst (Contains names) (sym as_pair) among) in
      subst (Contains (members_from masks g a)) as_pair
      (Contains-map (λ m. (g, m)) (filter (is_in masks g) numbers) n.1
      (Contains-filter (is_in masks g) numbers n.1 (Contains-range_from a (most_members - a) n.1 from (omega arith)) bit))

  members_from-ascending : (a : ℕ) → IsAscending (members_from masks g a)
  members_from-ascending a =
      let numbers = range_with_len a (most_members - a) in
      let members = filter (is_in masks g) numbers in
      AllPairs-map Precedes (λ m. (g, m)) members
      (λ i j d before within. member-less g (get_or members i d) (get_or members j d)
      (AllPairs-filter (λ k l. k < l) (is_in masks g) numbers (range_from-ascending a (most_members - a)) i j d before within))

  pub names_in_group_masks : IsAscending names → names_in_group g names ≡ members_from masks g 0
  names_in_group_masks ascending =
      same_names (names_in_group g names) (members_from masks g 0) (group-ascending g names ascending) (members_from-ascending 0)
      (each (Contains (names_in_group g names)) (members_from masks g 0) (λ n among. let is = listed 0 n among in in_group g names n is.0 is.1))
      (each (Contains (members_from masks g 0)) (names_in_group g names)
      (λ n among. let (inside, same) = of_group g names n among in lists 0 n inside same (omega arith)))

  -- those above a name
  pub above_from_masks : (m : ℕ) → AreAbove names (g, m) (members_from masks g (m + 1))
  above_from_masks m = record {
    ascending = members_from-ascending (m + 1);
    only = λ n among. let is = listed (m + 1) n among in let higher = is.2 in (is.0, is.1, lower_first g m n.0 n.1 is.1 (omega arith));
    all = λ n among same less. let higher = higher_member n.0 m g n.1 same less in lists (m + 1) n among same (omega arith);
  }

-- a group is complete where it has its threshold's members in the masks
pub complete_by_count : (T : ℕ → Option ℕ) (N : Names) (masks : Masks) → AreMasksOf masks N → All (λ n. n.1 < most_members) N → IsAscending N → (g : ℕ)
    → g < most_groups → option_map_or (λ threshold. nat_le threshold (length (members_from masks g 0))) (T g) false ≡ is_complete T N g
complete_by_count T N masks masks_are low ascending g low_g =
    ap (λ l. option_map_or (λ threshold. nat_le threshold (length l)) (T g) false) (sym (names_in_group_masks masks N masks_are low g low_g ascending))

-- one entry of a table more
pub set_more : (table : List Bool) (f : ℕ → Bool) (group : ℕ) (value : Bool) → group < length table → ((g : ℕ) → g < group → get_or table g false ≡ f g)
    → value ≡ f group → (g : ℕ) → g < group + 1 → get_or (set table group value) g false ≡ f g
set_more table f group value inside so_far here g below =
    elim (cases_eq g group) [
      | inl this ↦ (ap (λ k. get_or (set table group value) k false) this ∙ get_or-set_same table group value false inside ∙ here ∙ ap f (sym this))
      | inr other ↦ (get_or-set_other table group g value false other ∙ so_far g (omega arith))
    ]
