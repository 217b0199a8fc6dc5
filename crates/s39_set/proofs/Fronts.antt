-- The names before a position of ascending names.
use Rattle.std.proofs.Common.{◌≡◌, ◌≢◌, ◌+◌, ◌-◌, ◌<◌, ◌≤◌, ◌++◌, ◌==◌, ℕ, true, [], ◌∷◌, length, get_or, filter, take}
use Rattle.std.proofs.Common.{not, All, Contains, Less, ⊎_elim, sym, ap, subst, ◌∙◌, arith}
use Rattle.std.specs.List.{range_with_len}
use Rattle.std.proofs.lemmas.Bool.{eq-eqb, false≢true}
use Rattle.std.proofs.lemmas.List.{length-take-le, get_or-take, get_or_default, take_more}
use Rattle.std.proofs.lemmas.List.Elements.{All-append, All-contains, All-map, All-take, Contains-push_cases}
use Rattle.s39_set.specs.declared.masks.Masks.{Masks}
use Rattle.s39_set.specs.Names.{Name, Names, name_cmp, IsAscending, names_in_group, most_members}
use Rattle.s39_set.specs.Masks.{is_in}
use Rattle.s39_set.specs.Steps.{members_from}
use Rattle.s39_lists.proofs.Sublists.{each}
use Rattle.s39_set.proofs.MembersOf.{none_counted}
use Rattle.s39_set.proofs.Ascending.{groups-in_order}
use Rattle.s39_set.proofs.RangesFrom.{less_up}

-- they come before the name there
pub front_before : (names : Names) (i : ℕ) → IsAscending names → i < length names → All (λ n. name_cmp n (get_or names i (0, 0)) ≡ Less) (take i names)
front_before names i ascending below k d within =
    let short : length (take i names) ≡ i = length-take-le i names (omega arith) in
    subst (λ n. name_cmp n (get_or names i (0, 0)) ≡ Less) (sym (get_or-take i names k d (omega arith)))
    (subst (λ n. name_cmp (get_or names k d) n ≡ Less) (get_or_default names i d (0, 0) below) (ascending k i d (omega arith) below))

module _ (names : Names) (i : ℕ) (ascending : IsAscending names) (below : i < length names) where
  -- and before the next member of its group
  pub front_before_next : All (λ n. name_cmp n ((get_or names i (0, 0)).0, (get_or names i (0, 0)).1 + 1) ≡ Less) (take i names)
  front_before_next k d within =
      let n = get_or (take i names) k d in
      let x = get_or names i (0, 0) in
      less_up n.0 n.1 x.0 x.1 (x.1 + 1) (front_before names i ascending below k d within) (omega arith)

  -- their groups are no later than its
  pub front-groups : All (λ n. n.0 < (get_or names i (0, 0)).0 + 1) (take i names)
  front-groups k d within = let order : (get_or (take i names) k d).0 ≤ (get_or names i (0, 0)).0 =
      groups-in_order (get_or (take i names) k d) (get_or names i (0, 0)) (front_before names i ascending below k d within) in omega arith

  -- nor are those of its group behind them
  pub with_members_groups : (masks : Masks) (many a : ℕ)
      → All (λ n. n.0 < (get_or names i (0, 0)).0 + 1) (take i names ++ take many (members_from masks (get_or names i (0, 0)).0 a))
  with_members_groups masks many a =
      let group = (get_or names i (0, 0)).0 in
      All-append (λ n. n.0 < group + 1) (take i names) (take many (members_from masks group a)) front-groups
      (All-take (λ n. n.0 < group + 1) many (members_from masks group a)
      (All-map (λ n. n.0 < group + 1) (λ member. (group, member)) (filter (is_in masks group) (range_with_len a (most_members - a)))
      (λ k d within. let next : group < group + 1 = omega arith in next)))

  -- where the name before it is of another group, none is of its group
  pub none_of_group : 0 < i → (get_or names (i - 1) (0, 0)).0 ≢ (get_or names i (0, 0)).0 → length (names_in_group (get_or names i (0, 0)).0 (take i names)) ≡ 0
  none_of_group some apart =
      let x = get_or names i (0, 0) in
      let last = get_or names (i - 1) (0, 0) in
      let upto : last.0 ≤ x.0 = groups-in_order last x (ascending (i - 1) i (0, 0) (omega arith) below) in
      let next : i ≡ (i - 1) + 1 = omega arith in
      let split : take i names ≡ take (i - 1) names ++ last ∷ [] = ap (λ k. take k names) next ∙ take_more names (i - 1) (0, 0) (omega arith) in
      none_counted x.0 (take i names)
      (each (λ n. n.0 ≢ x.0) (take i names)
      (λ n among same.
      ⊎_elim
      (λ (earlier : Contains (take (i - 1) names) n).
      let order : n.0 ≤ last.0 =
      groups-in_order n last
      (All-contains (λ m. name_cmp m last ≡ Less) (take (i - 1) names) n (front_before names (i - 1) ascending (omega arith)) earlier) in
      absurd (apart (omega arith)))
      (λ (here : last ≡ n). let own : last.0 ≡ n.0 = ap (λ (m : Name). m.0) here in absurd (apart (omega arith)))
      (Contains-push_cases (take (i - 1) names) last n (subst (λ l. Contains l n) split among))))

pub apart_from_test : (m n : ℕ) → not (m == n) ≡ true → m ≢ n
apart_from_test m n h same = false≢true (sym (ap not (eq-eqb m n same)) ∙ h)
