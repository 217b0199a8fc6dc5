-- The first members of the first complete groups, behind names of earlier groups.
use Rattle.std.proofs.Common.{◌≡◌, ◌≢◌, ℕ, ◌+◌, ◌-◌, ◌<◌, ◌≤◌, Bool, true, false, List, [], ◌∷◌, ◌++◌, length, get_or, filter, take}
use Rattle.std.proofs.Common.{All, AllPairs, Contains, Option, Some, Less, Greater, nat_le, inl, inr, ◌⊎◌, ⊎_elim, refl, sym, ap, subst, ◌∙◌, arith}
use Rattle.std.proofs.Common.{length-append}
use Rattle.std.specs.List.{range_with_len, flat_map}
use Rattle.std.specs.Option.{option_map_or}
use Rattle.std.proofs.lemmas.Bool.{cases_lt}
use Rattle.std.proofs.lemmas.List.{length-take-le, nil_from_length}
use Rattle.std.proofs.lemmas.List.Elements.{All-append, All-contains, Contains-append_left, Contains-append_right, Contains-append_cases, filter-append}
use Rattle.std.proofs.lemmas.List.Kept.{AllPairs-filter}
use Rattle.s39_set.specs.Names.{Name, Names, name_cmp, names_cmp, IsAscending, names_in_group, most_groups}
use Rattle.s39_set.specs.Groups.{is_complete, complete_groups, first_members}
use Rattle.s39_set.proofs.Thresholds.{HasJust}
use Rattle.s39_lists.proofs.Sublists.{IsSublist, each, one_of, of_filter, in_whole, take-sublist, Contains-head, Contains-cons, Contains-nil, Contains-filter}
use Rattle.s39_lists.proofs.Sublists.{Contains-cases, filter-none, AllPairs-append, AllPairs-sublist}
use Rattle.s39_lists.proofs.Pairs.{AllPairs-nil, AllPairs-head, AllPairs-tail}
use Rattle.s39_lists.proofs.Orders.{taken_before}
use Rattle.s39_set.proofs.Ascending.{Precedes, name_cmp_groups, same_names}
use Rattle.s39_set.proofs.CompleteGroups.{threshold_from_complete, is_complete-none, first_members-at}
use Rattle.s39_set.proofs.CompleteGroups.{Contains-complete_groups, complete_groups-ascending, same_groups}
use Rattle.s39_lists.proofs.Ranges.{range_from-ascending, range_from-bounds, Contains-range_from, filter-range_agree, range-split}
use Rattle.s39_set.proofs.MembersOf.{count, of_group, in_group, group-ascending, one_counted, counted, none_counted, count-append}
use Rattle.s39_set.proofs.ExactNames.{exact_at, exact_group, one_complete, complete_at_hand, HasNoRoom, not_greater}

-- ---- lists joined end to end

pub one_of_flat_map : (f : ℕ → Names) (gs : List ℕ) (n : Name) → Contains (flat_map f gs) n → (g : ℕ) × Contains gs g × Contains (f g) n
one_of_flat_map f [] n among = absurd (Contains-nil n among)
one_of_flat_map f (g ∷ gs) n among =
    elim (Contains-append_cases (f g) (flat_map f gs) n among) [
      | inl here ↦ (g, Contains-head g gs, here)
      | inr later ↦ (let (h, in_gs, in_f) = one_of_flat_map f gs n later in (h, Contains-cons g gs h in_gs, in_f))
    ]

pub Contains-flat_map : (f : ℕ → Names) (gs : List ℕ) (g : ℕ) (n : Name) → Contains gs g → Contains (f g) n → Contains (flat_map f gs) n
Contains-flat_map f [] g n in_gs in_f = absurd (Contains-nil g in_gs)
Contains-flat_map f (h ∷ gs) g n in_gs in_f =
    ⊎_elim
    (λ (same : h ≡ g). Contains-append_left (f h) (flat_map f gs) n (subst (λ k. Contains (f k) n) (sym same) in_f))
    (λ (later : Contains gs g). Contains-append_right (f h) (flat_map f gs) n (Contains-flat_map f gs g n later in_f))
    (Contains-cases h gs g in_gs)

-- names of each of ascending groups ascend
pub flat_map-ascending : (f : ℕ → Names) (gs : List ℕ) → AllPairs (λ g h. g < h) gs
    → ((g : ℕ) → Contains gs g → IsAscending (f g) × ((n : Name) → Contains (f g) n → n.0 ≡ g)) → IsAscending (flat_map f gs)
flat_map-ascending f [] order parts = AllPairs-nil Precedes
flat_map-ascending f (g ∷ gs) order parts =
    let first = parts g (Contains-head g gs) in
    AllPairs-append Precedes (f g) (flat_map f gs) first.0
    (flat_map-ascending f gs (AllPairs-tail (λ a b. a < b) g gs order) (λ h among. parts h (Contains-cons g gs h among)))
    (λ n here. each (Precedes n) (flat_map f gs)
    (λ m among.
    let (h, in_gs, in_f) = one_of_flat_map f gs m among in
    let own : n.0 ≡ g = first.1 n here in
    let other : m.0 ≡ h = (parts h (Contains-cons g gs h in_gs)).1 m in_f in
    let less : g < h = All-contains (λ k. g < k) gs h (AllPairs-head (λ a b. a < b) g gs order) in_gs in
    name_cmp_groups n m (omega arith)))

-- groups with as many names are complete alike
complete_alike : (T : ℕ → Option ℕ) (xs ys : Names) (g : ℕ) → count xs g ≡ count ys g → is_complete T xs g ≡ is_complete T ys g
complete_alike T xs ys g same = ap (λ n. option_map_or (λ threshold. nat_le threshold n) (T g) false) same

-- the complete groups are those below one and those from it on
complete_split : (T : ℕ → Option ℕ) (names : Names) (b : ℕ) → b ≤ most_groups → length (complete_groups T names)
    ≡ length (filter (is_complete T names) (range_with_len 0 b)) + length (filter (is_complete T names) (range_with_len b (most_groups - b)))
complete_split T names b upto =
    let p = is_complete T names in
    let whole : most_groups ≡ b + (most_groups - b) = omega arith in
    let from : 0 + b ≡ b = omega arith in
    ap (λ k. length (filter p (range_with_len 0 k))) whole
    ∙ ap (λ l. length (filter p l)) (range-split 0 b (most_groups - b))
    ∙ ap (λ c. length (filter p (range_with_len 0 b ++ range_with_len c (most_groups - b)))) from
    ∙ ap length (filter-append p (range_with_len 0 b) (range_with_len b (most_groups - b)))
    ∙ length-append (filter p (range_with_len 0 b)) (filter p (range_with_len b (most_groups - b)))

-- C says which groups are complete, and M gives the first members of each of them
module _ (T : ℕ → Option ℕ) (N : Names) (positive : (g t : ℕ) → T g ≡ Some t → 1 ≤ t) (sorted : IsAscending N) (M : ℕ → Names) (C : ℕ → Bool)
    (M_is : (g : ℕ) → g < most_groups → M g ≡ first_members T N g) (C_is : (g : ℕ) → g < most_groups → C g ≡ is_complete T N g) where
  -- the complete groups from one on
  abbrev pub groups_there : ℕ → List ℕ
  groups_there a = filter C (range_with_len a (most_groups - a))

  -- the first members of the first so many of them
  abbrev pub names_taken : ℕ → ℕ → Names
  names_taken a n = flat_map M (take n (groups_there a))

  record IsTaken (g : ℕ) : Type 0 where
    low : g < most_groups
    threshold : T g ≡ Some (length (M g))
    some : 1 ≤ length (M g)
    part : IsSublist (M g) (names_in_group g N)
    first : (n : Name) → Contains (names_in_group g N) n → (Contains (M g) n → ⊥) → All (λ m. name_cmp m n ≡ Less) (M g)

  is_taken : (g : ℕ) → g < most_groups → is_complete T N g ≡ true → IsTaken g
  is_taken g low complete =
      let has = threshold_from_complete T N g complete in
      let t = has.threshold in
      let own = names_in_group g N in
      let is : M g ≡ take t own = M_is g low ∙ first_members-at T N g t has.is in
      let threshold : T g ≡ Some (length (M g)) = has.is ∙ ap Some (sym (ap length is ∙ length-take-le t own has.enough)) in
      record {
        low = low;
        threshold = threshold;
        some = positive g (length (M g)) threshold;
        part = subst (λ l. IsSublist l own) (sym is) (take-sublist t own);
        first = λ n among apart. subst (All (λ m. name_cmp m n ≡ Less)) (sym is)
            (taken_before Precedes t own (group-ascending g N sorted) n among (subst (λ l. Contains l n → ⊥) is apart));
      }

  -- a group from one on that is complete
  there : (a g : ℕ) → Contains (groups_there a) g → (a ≤ g) × IsTaken g
  there a g among =
      let numbers = range_with_len a (most_groups - a) in
      let (in_range, complete) = of_filter C numbers g among in
      let bounds = All-contains (λ h. (a ≤ h) × (h < a + (most_groups - a))) numbers g (range_from-bounds a (most_groups - a)) in_range in
      let low : g < most_groups = omega (arith, bounds.0, bounds.1) in
      (bounds.0, is_taken g low (sym (C_is g low) ∙ complete))

  there-ascending : (a : ℕ) → AllPairs (λ g h. g < h) (groups_there a)
  there-ascending a =
      AllPairs-filter (λ g h. g < h) C (range_with_len a (most_groups - a)) (range_from-ascending a (most_groups - a))

  of_taken : (a n g : ℕ) → Contains (take n (groups_there a)) g → (a ≤ g) × IsTaken g
  of_taken a n g among = there a g (in_whole (take-sublist n (groups_there a)) g among)

  member-group : (g : ℕ) → IsTaken g → (m : Name) → Contains (M g) m → Contains N m × (m.0 ≡ g)
  member-group g is m among = of_group g N m (in_whole is.part m among)

  -- a name that is taken is one of those of its group
  of_names : (a n : ℕ) (m : Name) → Contains (names_taken a n) m → Contains (take n (groups_there a)) m.0 × Contains (M m.0) m
  of_names a n m among =
      let (g, in_groups, in_members) = one_of_flat_map M (take n (groups_there a)) m among in
      let same : m.0 ≡ g = (member-group g (of_taken a n g in_groups).1 m in_members).1 in
      (subst (Contains (take n (groups_there a))) (sym same) in_groups, subst (λ h. Contains (M h) m) (sym same) in_members)

  -- and each of those is taken
  in_names : (a n g : ℕ) (m : Name) → Contains (take n (groups_there a)) g → Contains (M g) m → Contains (names_taken a n) m
  in_names a n g m in_groups in_members = Contains-flat_map M (take n (groups_there a)) g m in_groups in_members

  names_taken-ascending : (a n : ℕ) → IsAscending (names_taken a n)
  names_taken-ascending a n =
      flat_map-ascending M (take n (groups_there a)) (AllPairs-sublist (λ g h. g < h) (take-sublist n (groups_there a)) (there-ascending a))
      (λ g among.
      let is = (of_taken a n g among).1 in
      (AllPairs-sublist Precedes is.part (group-ascending g N sorted), λ m in_m. (member-group g is m in_m).1))

  -- names are taken from a group on
  pub names_taken-from : (a n : ℕ) → All (λ m. a ≤ m.0) (names_taken a n)
  names_taken-from a n = each (λ m. a ≤ m.0) (names_taken a n) (λ m among. (of_taken a n m.0 (of_names a n m among).0).0)

  names_of_group : (a n g : ℕ) → Contains (take n (groups_there a)) g → names_in_group g (names_taken a n) ≡ M g
  names_of_group a n g among =
      let names = names_taken a n in
      let is = (of_taken a n g among).1 in
      same_names (names_in_group g names) (M g) (group-ascending g names (names_taken-ascending a n))
      (AllPairs-sublist Precedes is.part (group-ascending g N sorted))
      (each (Contains (names_in_group g names)) (M g) (λ m in_m. in_group g names m (in_names a n g m among in_m) (member-group g is m in_m).1))
      (each (Contains (M g)) (names_in_group g names)
      (λ m in_names.
      let (inside, same) = of_group g names m in_names in
      subst (λ h. Contains (M h) m) same (of_names a n m inside).1))

  -- the names have just what the thresholds ask, with as many groups as were wanted
  pub taken_just : (a n : ℕ) → n ≤ length (groups_there a) → HasJust T N n (names_taken a n)
  taken_just a n enough =
      let names = names_taken a n in
      let groups = take n (groups_there a) in
      let all : All (Contains (complete_groups T names)) groups =
      each (Contains (complete_groups T names)) groups
      (λ g among.
      let is = (of_taken a n g among).1 in
      let same = ap length (names_of_group a n g among) in
      Contains-complete_groups T names g (length (M g)) is.low is.threshold (omega arith)) in
      let only : All (Contains groups) (complete_groups T names) =
      each (Contains groups) (complete_groups T names)
      (λ g among. let (m, inside, same) = one_complete T positive names g among in subst (Contains groups) same (of_names a n m inside).0) in
      record {
        ascending = names_taken-ascending a n;
        at_hand = each (Contains N) names
            (λ m among. let both = of_names a n m among in (member-group m.0 (of_taken a n m.0 both.0).1 m both.1).0);
        groups = sym (length-take-le n (groups_there a) enough)
            ∙ sym (ap length (same_groups (complete_groups T names) groups (complete_groups-ascending T names)
            (AllPairs-sublist (λ g h. g < h) (take-sublist n (groups_there a)) (there-ascending a)) all only));
        members = each (λ m. T m.0 ≡ Some (count names m.0)) names
            (λ m among.
            let in_groups = (of_names a n m among).0 in
            (of_taken a n m.0 in_groups).1.threshold ∙ ap (λ l. Some (length l)) (sym (names_of_group a n m.0 in_groups)));
      }

  -- so do they behind names that have as many of each group below b as Q has, with as many groups as Q has from there on
  pub joined_just : (G : ℕ) (Q front : Names) (b a n : ℕ) → HasJust T N G Q → b ≤ a → b ≤ most_groups → IsAscending front → All (Contains N) front
      → All (λ m. m.0 < b) front → ((g : ℕ) → g < b → count front g ≡ count Q g)
      → n ≡ length (filter (is_complete T Q) (range_with_len b (most_groups - b))) → n ≤ length (groups_there a) → HasJust T N G (front ++ names_taken a n)
  joined_just G Q front b a n just upto low ascending at_hand earlier counts wanted enough =
      let back = names_taken a n in
      let names = front ++ back in
      let back_just = taken_just a n enough in
      let from = names_taken-from a n in
      let none_behind : (g : ℕ) → g < b → count back g ≡ 0 =
      λ g less. none_counted g back (λ k d within e. let past : a ≤ (get_or back k d).0 = from k d within in absurd (omega arith)) in
      let none_before : (g : ℕ) → b ≤ g → count front g ≡ 0 =
      λ g more. none_counted g front (λ k d within e. let less : (get_or front k d).0 < b = earlier k d within in absurd (omega arith)) in
      let below : (g : ℕ) → g < b → count names g ≡ count Q g =
      λ g less. omega (arith, count-append front back g, none_behind g less, counts g less) in
      let above : (g : ℕ) → b ≤ g → count names g ≡ count back g = λ g more. omega (arith, count-append front back g, none_before g more) in
      let agree : (xs : Names) (c k : ℕ) → ((g : ℕ) → c ≤ g → g < c + k → count names g ≡ count xs g)
      → length (filter (is_complete T names) (range_with_len c k)) ≡ length (filter (is_complete T xs) (range_with_len c k)) =
      λ xs c k same. ap length (filter-range_agree (is_complete T names) (is_complete T xs) c k
      (λ g from_c upto_k. complete_alike T names xs g (same g from_c upto_k))) in
      let none : length (filter (is_complete T back) (range_with_len 0 b)) ≡ 0 =
      ap length (filter-none (is_complete T back) (range_with_len 0 b)
      (λ k d within.
      let g = get_or (range_with_len 0 b) k d in
      let less : g < b = omega (arith, (range_from-bounds 0 b k d within).1) in
      is_complete-none T back g (positive g) (nil_from_length (names_in_group g back) (none_behind g less)))) in
      let mine = agree Q 0 b (λ g _ less. below g (omega arith)) in
      let theirs = agree back b (most_groups - b) (λ g more _. above g more) in
      let whole = just.groups in
      let whole_back = back_just.groups in
      record {
        ascending = AllPairs-append Precedes front back ascending back_just.ascending
            (λ m among. each (Precedes m) back
            (λ r in_back.
            let less : m.0 < b = All-contains (λ p. p.0 < b) front m earlier among in
            let past : a ≤ r.0 = All-contains (λ p. a ≤ p.0) back r from in_back in
            name_cmp_groups m r (omega arith)));
        at_hand = All-append (Contains N) front back at_hand back_just.at_hand;
        groups = omega (arith, complete_split T Q b low, complete_split T names b low, complete_split T back b low);
        members = each (λ m. T m.0 ≡ Some (count names m.0)) names
            (λ m among.
            ⊎_elim
            (λ (first : Contains front m).
            let less : m.0 < b = All-contains (λ p. p.0 < b) front m earlier first in
            let same = counts m.0 less in
            let some = counted front m first in
            exact_group just m.0 (omega arith) ∙ ap Some (sym (below m.0 less)))
            (λ (last : Contains back m).
            let past : a ≤ m.0 = All-contains (λ p. a ≤ p.0) back m from last in
            exact_at back_just m last ∙ ap Some (sym (above m.0 (omega arith))))
            (Contains-append_cases front back m among));
      }

  -- behind a front, the first names of a list of earlier groups and then these are least, where what can stand there is of the list or of these groups
  pub taken_least : (G : ℕ) → All (λ m. m.0 < most_groups) N → (front A others : Names) (a c n : ℕ) → IsAscending A → All (λ m. m.0 < a) A
      → HasJust T N G (front ++ (take c A ++ names_taken a n)) → HasJust T N G (front ++ others)
      → ((m : Name) → Contains A m → (r : Name) × Contains (front ++ (take c A ++ names_taken a n)) r × (r.0 ≡ m.0))
      → ((y : Name) → Contains others y → Contains A y ⊎ (a ≤ y.0)) → names_cmp (take c A ++ names_taken a n) others ≢ Greater
  taken_least G below front A others a c n ascending earlier just other used free =
      not_greater below front names others just other
      (λ y in_others missing.
      ⊎_elim
      (λ (in_list : Contains A y).
      let low : y.0 < a = All-contains (λ m. m.0 < a) A y earlier in_list in
      let lower = taken_before Precedes c A ascending y in_list
      (λ among. missing (Contains-append_right front names y (Contains-append_left (take c A) back y among))) in
      inr (
        used y in_list,
        λ m among same. ⊎_elim
            (λ (first : Contains (take c A) m). All-contains (λ k. name_cmp k y ≡ Less) (take c A) m lower first)
            (λ (last : Contains back m). absurd (let past : a ≤ m.0 = All-contains (λ p. a ≤ p.0) back m from last in omega arith))
            (Contains-append_cases (take c A) back m among),
      ))
      (λ (past : a ≤ y.0). behind y in_others past missing)
      (free y in_others))
    where
      back : Names
      back = names_taken a n

      names : Names
      names = take c A ++ back

      from : All (λ m. a ≤ m.0) back
      from = names_taken-from a n

      before_a : (m : Name) → Contains (take c A) m → m.0 < a
      before_a m among = All-contains (λ p. p.0 < a) A m earlier (in_whole (take-sublist c A) m among)

      behind : (y : Name) → Contains others y → a ≤ y.0 → (Contains (front ++ names) y → ⊥) → HasNoRoom front names y
      behind y in_others past missing =
          let groups = take n (groups_there a) in
          let in_other : Contains (front ++ others) y = Contains-append_right front others y in_others in
          let in_N : Contains N y = All-contains (Contains N) (front ++ others) y other.at_hand in_other in
          let low : y.0 < most_groups = All-contains (λ m. m.0 < most_groups) N y below in_N in
          let in_groups : Contains (groups_there a) y.0 =
          Contains-filter C (range_with_len a (most_groups - a)) y.0 (Contains-range_from a (most_groups - a) y.0 past (omega arith))
          (C_is y.0 low ∙ complete_at_hand sorted other y in_other) in
          elim (cases_lt 0 (count back y.0)) [
            | inl some ↦ (
                let (r, r_in, same) = one_counted y.0 back some in
                let taken : Contains groups y.0 = subst (Contains groups) same (of_names a n r r_in).0 in
                let lower : All (λ m. name_cmp m y ≡ Less) (M y.0) =
                (of_taken a n y.0 taken).1.first y (in_group y.0 N y in_N refl)
                (λ in_M. missing (Contains-append_right front names y (Contains-append_right (take c A) back y (in_names a n y.0 y taken in_M)))) in
                inr (
                  (r, Contains-append_right front names r (Contains-append_right (take c A) back r r_in), same),
                  λ m among own. ⊎_elim
                      (λ (first : Contains (take c A) m). absurd (let less : m.0 < a = before_a m first in omega arith))
                      (λ (last : Contains back m). All-contains (λ k. name_cmp k y ≡ Less) (M y.0) m lower
                      (subst (λ h. Contains (M h) m) own (of_names a n m last).1))
                      (Contains-append_cases (take c A) back m among),
                ))
            | inr none ↦ (
                let apart : Contains groups y.0 → ⊥ =
                λ taken.
                let is = (of_taken a n y.0 taken).1 in
                let (m, in_M) = one_of (M y.0) is.some in
                let some : 0 < count back m.0 = counted back m (in_names a n y.0 m taken in_M) in
                let own : m.0 ≡ y.0 = (member-group y.0 is m in_M).1 in
                let same : count back m.0 ≡ count back y.0 = ap (λ g. count back g) own in
                absurd (omega arith) in
                let lower : All (λ g. g < y.0) groups = taken_before (λ g h. g < h) n (groups_there a) (there-ascending a) y.0 in_groups apart in
                inl (each (λ m. name_cmp m y ≡ Less) names (λ m among. ⊎_elim
                (λ (first : Contains (take c A) m). let less : m.0 < a = before_a m first in name_cmp_groups m y (omega arith))
                (λ (last : Contains back m). name_cmp_groups m y (All-contains (λ g. g < y.0) groups m.0 lower (of_names a n m last).0))
                (Contains-append_cases (take c A) back m among))))
          ]
