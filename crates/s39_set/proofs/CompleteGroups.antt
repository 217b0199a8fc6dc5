-- The groups of which enough members are there.
use Rattle.std.proofs.Common.{◌≡◌, ℕ, ◌<◌, ◌≤◌, ◌==◌, true, false, List, [], length, take}
use Rattle.std.proofs.Common.{Option, Some, None, nat_le, unwrap_or, refl, ap, ◌∙◌, arith}
use Rattle.std.specs.List.{All, AllPairs, Contains, range_with_len}
use Rattle.std.specs.Option.{option_map_or}
use Rattle.std.proofs.lemmas.Bool.{leb-true, le-leb, lt-leb, false≢true}
use Rattle.std.proofs.lemmas.List.Elements.{All-contains, filter_passes}
use Rattle.std.proofs.lemmas.List.Kept.{AllPairs-filter}
use Rattle.s39_set.specs.Names.{Names, names_in_group, most_groups}
use Rattle.s39_set.specs.Groups.{is_complete, complete_groups, first_members}
use Rattle.s39_lists.proofs.Sublists.{IsSublist, length-sublist, filter_weaker, filter-sublist, Contains-filter, same_from_elements}
use Rattle.s39_lists.proofs.Ranges.{range-ascending, Contains-range}

pub groups_one_way : (a b : ℕ) → a < b → b < a → ⊥
groups_one_way a b before after = omega arith

-- ascending groups are known by which groups they are
pub same_groups : (xs ys : List ℕ) → AllPairs (λ a b. a < b) xs → AllPairs (λ a b. a < b) ys → All (Contains xs) ys → All (Contains ys) xs → xs ≡ ys
same_groups = same_from_elements (λ a b. a < b) groups_one_way

-- a group's threshold, and that so many of its members are there
pub record HasThreshold (T : ℕ → Option ℕ) (names : Names) (g : ℕ) : Type 0 where
  pub threshold : ℕ
  pub is : T g ≡ Some threshold
  pub enough : threshold ≤ length (names_in_group g names)

module _ (T : ℕ → Option ℕ) (names : Names) where
  -- a group with its threshold's members is complete
  pub is_complete_from : (g t : ℕ) → T g ≡ Some t → t ≤ length (names_in_group g names) → is_complete T names g ≡ true
  is_complete_from g t e enough =
      ap (λ o. option_map_or (λ threshold. nat_le threshold (length (names_in_group g names))) o false) e
      ∙ le-leb t (length (names_in_group g names)) enough

  -- a complete group has its threshold's members
  pub threshold_from_complete : (g : ℕ) → is_complete T names g ≡ true → HasThreshold T names g
  threshold_from_complete g complete = go (T g) refl complete
    where
      go : (o : Option ℕ) → T g ≡ o → option_map_or (λ threshold. nat_le threshold (length (names_in_group g names))) o false ≡ true → HasThreshold T names g
      go None e c = absurd (false≢true c)
      go (Some t) e c = record { threshold = t; is = e; enough = leb-true t (length (names_in_group g names)) c }

  -- the complete groups ascend
  pub complete_groups-ascending : AllPairs (λ a b. a < b) (complete_groups T names)
  complete_groups-ascending = AllPairs-filter (λ a b. a < b) (is_complete T names) (range_with_len 0 most_groups) (range-ascending most_groups)

  -- they are complete
  pub complete_groups-threshold : (g : ℕ) → Contains (complete_groups T names) g → HasThreshold T names g
  complete_groups-threshold g among =
      threshold_from_complete g
      (All-contains (λ h. is_complete T names h ≡ true) (complete_groups T names) g (filter_passes (is_complete T names) (range_with_len 0 most_groups)) among)

  -- each complete group is among them
  pub Contains-complete_groups : (g t : ℕ) → g < most_groups → T g ≡ Some t → t ≤ length (names_in_group g names) → Contains (complete_groups T names) g
  Contains-complete_groups g t below e enough =
      Contains-filter (is_complete T names) (range_with_len 0 most_groups) g (Contains-range most_groups g below) (is_complete_from g t e enough)

-- some of the names have some of the members of a group
pub names_in_group-sublist : (g : ℕ) {fewer names : Names} → IsSublist fewer names → IsSublist (names_in_group g fewer) (names_in_group g names)
names_in_group-sublist g part = filter-sublist (λ name. name.0 == g) part

-- a group that some complete is complete
pub complete_weaker : (T : ℕ → Option ℕ) {fewer names : Names} → IsSublist fewer names → (g : ℕ) → is_complete T fewer g ≡ true
    → is_complete T names g ≡ true
complete_weaker T {fewer} {names} part g complete =
    let has = threshold_from_complete T fewer g complete in
    let more = length-sublist (names_in_group-sublist g part) in
    is_complete_from T names g has.threshold has.is (omega arith)

-- and they complete some of the groups
pub complete_groups-sublist : (T : ℕ → Option ℕ) {fewer names : Names} → IsSublist fewer names
    → IsSublist (complete_groups T fewer) (complete_groups T names)
complete_groups-sublist T {fewer} {names} part =
    filter_weaker (is_complete T fewer) (is_complete T names) (complete_weaker T part) (range_with_len 0 most_groups)

-- at a known threshold, so many of the group's names
pub first_members-at : (T : ℕ → Option ℕ) (names : Names) (g t : ℕ) → T g ≡ Some t → first_members T names g ≡ take t (names_in_group g names)
first_members-at T names g t e = ap (λ o. take (unwrap_or o 0) (names_in_group g names)) e

not_reached : (o : Option ℕ) → ((t : ℕ) → o ≡ Some t → 1 ≤ t) → option_map_or (λ threshold. nat_le threshold 0) o false ≡ false
not_reached None positive = refl
not_reached (Some t) positive = lt-leb t 0 (positive t refl)

-- a group with no name is not complete, if its threshold is positive
pub is_complete-none : (T : ℕ → Option ℕ) (names : Names) (g : ℕ) → ((t : ℕ) → T g ≡ Some t → 1 ≤ t) → names_in_group g names ≡ []
    → is_complete T names g ≡ false
is_complete-none T names g positive none =
    ap (λ some. option_map_or (λ threshold. nat_le threshold (length some)) (T g) false) none ∙ not_reached (T g) positive
