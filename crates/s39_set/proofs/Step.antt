-- What can stand in the place of a name of a quorum, and behind it.
use Rattle.std.proofs.Common.{◌≡◌, ◌≢◌, ℕ, suc, ◌+◌, ◌-◌, ◌<◌, ◌≤◌, ◌==◌, Bool, true, false, cond, [], ◌∷◌, ◌++◌, length, filter}
use Rattle.std.proofs.Common.{take, All, Contains, Option, Some, Less, Greater, inl, inr, ⊎_elim, refl, sym, ap, subst, ◌∙◌, arith}
use Rattle.std.proofs.Common.{append_assoc, le_refl}
use Rattle.std.specs.List.{range_with_len}
use Rattle.std.proofs.lemmas.Bool.{cases_lt, lt-ltb, le-ltb, eq-eqb, false≢true}
use Rattle.std.proofs.lemmas.List.{length-take-le}
use Rattle.std.proofs.lemmas.List.Elements.{All-nil, All-append, All-contains, Contains-append_left, Contains-append_right, Contains-append_cases}
use Rattle.std.proofs.lemmas.List.Kept.{AllPairs-cons}
use Rattle.s39_set.specs.Names.{Name, Names, name_cmp, names_cmp, IsAscending, names_in_group, most_groups}
use Rattle.s39_set.specs.Groups.{is_complete, complete_groups, first_members, groups_above}
use Rattle.s39_set.proofs.Thresholds.{HasJust}
use Rattle.s39_lists.proofs.Sublists.{IsSublist, each, one_of, of_filter, in_whole, length_less, length-sublist, filter_weaker, take-sublist, filter-all}
use Rattle.s39_lists.proofs.Sublists.{Contains-filter, Contains-head, Contains-cons, Contains-cases, Contains-nil, AllPairs-append, AllPairs-sublist}
use Rattle.s39_lists.proofs.Pairs.{AllPairs-nil, AllPairs-head}
use Rattle.s39_lists.proofs.Orders.{All-append_left, AllPairs-append_left, AllPairs-append_right, across}
use Rattle.s39_set.proofs.Ascending.{Precedes, name_cmp_groups, name_cmp_one_way, names-sublist, same_names, less_than, groups-in_order}
use Rattle.s39_set.proofs.CompleteGroups.{complete_weaker}
use Rattle.s39_lists.proofs.Ranges.{filter-range_agree, Contains-range_from}
use Rattle.s39_set.proofs.MembersOf.{count, of_group, in_group, group-ascending, one_counted, counted, none_counted, count-append}
use Rattle.s39_set.proofs.ExactNames.{complete_is, complete_at, complete_at_hand, one_complete, same_members, same_complete}
use Rattle.s39_set.proofs.Completion.{names_taken, groups_there, names_taken-from, joined_just, taken_least}

-- the names of a list that are of the group of a name and come after it
pub record AreAbove (names : Names) (x : Name) (above : Names) : Type 0 where
  pub ascending : IsAscending above
  pub only : (n : Name) → Contains above n → Contains names n × (n.0 ≡ x.0) × (name_cmp x n ≡ Less)
  pub all : (n : Name) → Contains names n → n.0 ≡ x.0 → name_cmp x n ≡ Less → Contains above n

module _ (T : ℕ → Option ℕ) (N : Names) (G : ℕ) (positive : (g t : ℕ) → T g ≡ Some t → 1 ≤ t) (below : All (λ n. n.0 < most_groups) N)
    (sorted : IsAscending N) (P S : Names) (x : Name) (just : HasJust T N G (P ++ x ∷ S)) where
  in_place : Contains (P ++ x ∷ S) x
  in_place = Contains-append_right P (x ∷ S) x (Contains-head x S)

  low : x.0 < most_groups
  low = All-contains (λ n. n.0 < most_groups) N x below (All-contains (Contains N) (P ++ x ∷ S) x just.at_hand in_place)

  earlier : (n : Name) → Contains P n → name_cmp n x ≡ Less
  earlier n among = across Precedes P (x ∷ S) just.ascending n x among (Contains-head x S)

  later : (n : Name) → Contains S n → name_cmp x n ≡ Less
  later n among = All-contains (Precedes x) S n (AllPairs-head Precedes x S (AllPairs-append_right Precedes P (x ∷ S) just.ascending)) among

  not_itself : name_cmp x x ≡ Less → ⊥
  not_itself e = name_cmp_one_way x x e e

  -- names behind the front of another quorum that has a greater name in x's place
  after_x : (y : Name) (Z : Names) → HasJust T N G (P ++ y ∷ Z) → name_cmp x y ≡ Less → (n : Name) → Contains (y ∷ Z) n → name_cmp x n ≡ Less
  after_x y Z other less n among =
      ⊎_elim
      (λ (same : y ≡ n). subst (Precedes x) same less)
      (λ (rest : Contains Z n). less_than x y n less
      (All-contains (Precedes y) Z n (AllPairs-head Precedes y Z (AllPairs-append_right Precedes P (y ∷ Z) other.ascending)) rest))
      (Contains-cases y Z n among)

  -- where all of x's group at hand above it are chosen, another quorum with a greater name in x's place has none of its group
  none_of_group : ((n : Name) → Contains N n → n.0 ≡ x.0 → name_cmp x n ≡ Less → Contains (P ++ x ∷ S) n) → (y : Name) (Z : Names)
      → HasJust T N G (P ++ y ∷ Z) → name_cmp x y ≡ Less → (n : Name) → Contains (P ++ y ∷ Z) n → n.0 ≢ x.0
  none_of_group chosen y Z other less n among own =
      let has_x : Contains (P ++ y ∷ Z) x =
      same_members other just n x among in_place own
      (λ m in_other same. ⊎_elim
      (λ (first : Contains P m). Contains-append_left P (x ∷ S) m first)
      (λ (last : Contains (y ∷ Z) m). chosen m (All-contains (Contains N) (P ++ y ∷ Z) m other.at_hand in_other) same (after_x y Z other less m last))
      (Contains-append_cases P (y ∷ Z) m in_other)) in
      ⊎_elim
      (λ (first : Contains P x). not_itself (earlier x first))
      (λ (last : Contains (y ∷ Z) x). not_itself (after_x y Z other less x last))
      (Contains-append_cases P (y ∷ Z) x has_x)

  -- then nothing greater can stand there, where a name before x is of its group or all complete groups above it are used
  pub nothing_greater : ((n : Name) → Contains N n → n.0 ≡ x.0 → name_cmp x n ≡ Less → Contains (P ++ x ∷ S) n)
      → (count P x.0 ≡ 0 → (g : ℕ) → x.0 < g → g < most_groups → is_complete T N g ≡ true → 0 < count (P ++ x ∷ S) g)
      → (y : Name) (Z : Names) → HasJust T N G (P ++ y ∷ Z) → name_cmp x y ≡ Less → ⊥
  nothing_greater chosen used y Z other less =
      let Q = P ++ x ∷ S in
      let O = P ++ y ∷ Z in
      let apart = none_of_group chosen y Z other less in
      let first : count P x.0 ≡ 0 = none_counted x.0 P (each (λ n. n.0 ≢ x.0) P (λ n among. apart n (Contains-append_left P (y ∷ Z) n among))) in
      let in_Q : (g : ℕ) (m : Name) → Contains O m → m.0 ≡ g → 0 < count Q g =
      λ g m among same. ⊎_elim
      (λ (front : Contains P m). subst (λ h. 0 < count Q h) same (counted Q m (Contains-append_left P (x ∷ S) m front)))
      (λ (back : Contains (y ∷ Z) m).
      let upto : x.0 ≤ m.0 = groups-in_order x m (after_x y Z other less m back) in
      let another : m.0 ≢ x.0 = apart m among in
      let small : m.0 < most_groups = All-contains (λ n. n.0 < most_groups) N m below (All-contains (Contains N) O m other.at_hand among) in
      subst (λ h. 0 < count Q h) same (used first m.0 (omega arith) small (complete_at_hand sorted other m among)))
      (Contains-append_cases P (y ∷ Z) m among) in
      let groups : complete_groups T Q ≡ complete_groups T O =
      same_complete other just
      (each (Contains (complete_groups T Q)) (complete_groups T O)
      (λ g among.
      let (m, in_O, same) = one_complete T positive O g among in
      let (n, in_names, is_g) = one_counted g Q (in_Q g m in_O same) in
      subst (Contains (complete_groups T Q)) is_g (complete_at below just n in_names))) in
      let (m, in_O, same) = one_complete T positive O x.0 (subst (λ gs. Contains gs x.0) groups (complete_at below just x in_place)) in
      apart m in_O same

  -- ---- the least that can stand there

  module _ (M : ℕ → Names) (C : ℕ → Bool) (M_is : (g : ℕ) → g < most_groups → M g ≡ first_members T N g)
      (C_is : (g : ℕ) → g < most_groups → C g ≡ is_complete T N g) where
    -- how many groups above x's the quorum has
    abbrev pub groups_used : ℕ
    groups_used = length (filter (is_complete T (P ++ x ∷ S)) (groups_above x.0))

    abbrev taken : ℕ → Names
    taken n = names_taken T N positive sorted M C M_is C_is (x.0 + 1) n

    -- what stands there, and is least
    pub record IsLeastThere (R : Names) : Type 0 where
      pub has_just : HasJust T N G (P ++ R)
      pub later : All (λ n. name_cmp x n ≡ Less) R
      pub least : (y : Name) (Z : Names) → HasJust T N G (P ++ y ∷ Z) → name_cmp x y ≡ Less → names_cmp R (y ∷ Z) ≢ Greater

    upto : All (λ n. n.0 ≤ x.0) P
    upto = each (λ n. n.0 ≤ x.0) P (λ n among. groups-in_order n x (earlier n among))

    -- from x on there is no name of an earlier group
    none_from_x : (g : ℕ) → g < x.0 → count (x ∷ S) g ≡ 0
    none_from_x g less =
        none_counted g (x ∷ S) (each (λ n. n.0 ≢ g) (x ∷ S) (λ n among same. ⊎_elim
        (λ (here : x ≡ n). let first : x.0 ≡ n.0 = ap (λ (m : Name). m.0) here in absurd (omega arith))
        (λ (rest : Contains S n). let order : x.0 ≤ n.0 = groups-in_order x n (later n rest) in absurd (omega arith))
        (Contains-cases x S n among)))

    -- the complete groups at hand above x's, as the table says
    there_is : groups_there T N positive sorted M C M_is C_is (x.0 + 1) ≡ filter (is_complete T N) (groups_above x.0)
    there_is = filter-range_agree C (is_complete T N) (x.0 + 1) (most_groups - (x.0 + 1)) (λ g _ less. C_is g (let at = low in omega arith))

    -- those that the quorum has are some of them
    part : IsSublist (filter (is_complete T (P ++ x ∷ S)) (groups_above x.0)) (groups_there T N positive sorted M C M_is C_is (x.0 + 1))
    part =
        subst (IsSublist (filter (is_complete T (P ++ x ∷ S)) (groups_above x.0))) (sym there_is)
        (filter_weaker (is_complete T (P ++ x ∷ S)) (is_complete T N) (λ g complete. complete_weaker T (names-sublist N (P ++ x ∷ S) sorted just.ascending
        just.at_hand) g complete) (groups_above x.0))

    taken-later : (n : ℕ) → All (λ m. name_cmp x m ≡ Less) (taken n)
    taken-later n =
        let from = names_taken-from T N positive sorted M C M_is C_is (x.0 + 1) n in
        each (Precedes x) (taken n) (λ m among. name_cmp_groups x m (let past : x.0 + 1 ≤ m.0 =
        All-contains (λ k. x.0 + 1 ≤ k.0) (taken n) m from among in omega arith))

    -- of x's group: with A above x at hand and K above it chosen, one of A not in K
    pub least_of_group : (A K : Names) → AreAbove N x A → AreAbove (P ++ x ∷ S) x K → (n : Name) → Contains A n → (Contains K n → ⊥)
        → IsLeastThere (take (suc (length K)) A ++ taken groups_used)
    least_of_group A K at_hand chosen n above free =
        let Q = P ++ x ∷ S in
        let F = take (suc (length K)) A in
        let part_A = take-sublist (suc (length K)) A in
        let of_x : (m : Name) → Contains F m → m.0 ≡ x.0 = λ m among. (at_hand.only m (in_whole part_A m among)).1 in
        let K_in_A : All (Contains A) K = each (Contains A) K (λ m among.
        let is = chosen.only m among in at_hand.all m (All-contains (Contains N) Q m just.at_hand is.0) is.1 is.2) in
        let more : length K < length A = length_less (names-sublist A K at_hand.ascending chosen.ascending K_in_A) n above free in
        let long : length F ≡ suc (length K) = length-take-le (suc (length K)) A (omega arith) in
        let of_group_F : count F x.0 ≡ length F =
        ap length (filter-all (λ m. m.0 == x.0) F (each (λ m. (m.0 == x.0) ≡ true) F (λ m among. eq-eqb m.0 x.0 (of_x m among)))) in
        let counts : (g : ℕ) → g < x.0 + 1 → count (P ++ F) g ≡ count Q g =
        λ g less. elim (cases_lt g x.0) [
          | inl past ↦ (
              let none : count F g ≡ 0 = none_counted g F (each (λ m. m.0 ≢ g) F (λ m among same. let own = of_x m among in absurd (omega arith))) in
              omega (arith, count-append P F g, count-append P (x ∷ S) g, none, none_from_x g past))
          | inr here ↦ (
              let this : g ≡ x.0 = omega arith in
              let own : count (P ++ F) x.0 ≡ count Q x.0 =
              omega (arith, count-append P F x.0, count-append P (x ∷ S) x.0, of_group_F, long, ap length (own_names K chosen)) in
              subst (λ h. count (P ++ F) h ≡ count Q h) (sym this) own)
        ] in
        let has : HasJust T N G ((P ++ F) ++ taken groups_used) =
        joined_just T N positive sorted M C M_is C_is G Q (P ++ F) (x.0 + 1) (x.0 + 1) groups_used just (le_refl (x.0 + 1)) (let at = low in omega arith)
        (AllPairs-append Precedes P F (AllPairs-append_left Precedes P (x ∷ S) just.ascending) (AllPairs-sublist Precedes part_A at_hand.ascending)
        (λ p in_P. each (Precedes p) F (λ m among. less_than p x m (earlier p in_P) (at_hand.only m (in_whole part_A m among)).2)))
        (All-append (Contains N) P F (All-append_left (Contains N) P (x ∷ S) just.at_hand)
        (each (Contains N) F (λ m among. (at_hand.only m (in_whole part_A m among)).0)))
        (All-append (λ m. m.0 < x.0 + 1) P F
        (each (λ m. m.0 < x.0 + 1) P (λ m among. let order : m.0 ≤ x.0 = All-contains (λ p. p.0 ≤ x.0) P m upto among in omega arith))
        (each (λ m. m.0 < x.0 + 1) F (λ m among. let own = of_x m among in omega arith)))
        counts refl (length-sublist part) in
        let joined : HasJust T N G (P ++ (F ++ taken groups_used)) = subst (HasJust T N G) (append_assoc P F (taken groups_used)) has in
        record {
          has_just = joined;
          later = All-append (Precedes x) F (taken groups_used) (each (Precedes x) F (λ m among. (at_hand.only m (in_whole part_A m among)).2))
              (taken-later groups_used);
          least = λ y Z other less.
              taken_least T N positive sorted M C M_is C_is G below P A (y ∷ Z) (x.0 + 1) (suc (length K)) groups_used at_hand.ascending
              (each (λ m. m.0 < x.0 + 1) A (λ m among. let own = (at_hand.only m among).1 in omega arith)) joined other
              (λ m among.
              let (r, in_F) = one_of F (omega arith) in (
                r,
                Contains-append_right P (F ++ taken groups_used) r (Contains-append_left F (taken groups_used) r in_F),
                of_x r in_F ∙ sym (at_hand.only m among).1,
              ))
              (λ m among.
              let after = after_x y Z other less m among in
              let order : x.0 ≤ m.0 = groups-in_order x m after in
              elim (cases_lt x.0 m.0) [
                | inl past ↦ inr (omega arith)
                | inr here ↦ inl (at_hand.all m (All-contains (Contains N) (P ++ y ∷ Z) m other.at_hand (Contains-append_right P (y ∷ Z) m among))
                    (omega arith) after)
              ]);
        }
      where
        own_names : (K : Names) → AreAbove (P ++ x ∷ S) x K → names_in_group x.0 (x ∷ S) ≡ x ∷ K
        own_names K chosen =
            let back = names_in_group x.0 (x ∷ S) in
            same_names back (x ∷ K) (group-ascending x.0 (x ∷ S) (AllPairs-append_right Precedes P (x ∷ S) just.ascending))
            (AllPairs-cons Precedes x K (each (Precedes x) K (λ m among. (chosen.only m among).2)) chosen.ascending)
            (each (Contains back) (x ∷ K) (λ m among. ⊎_elim
            (λ (here : x ≡ m). subst (Contains back) here (in_group x.0 (x ∷ S) x (Contains-head x S) refl))
            (λ (rest : Contains K m).
            let is = chosen.only m rest in
            in_group x.0 (x ∷ S) m (⊎_elim
            (λ (first : Contains P m). absurd (name_cmp_one_way m x (earlier m first) is.2))
            (λ (last : Contains (x ∷ S) m). last)
            (Contains-append_cases P (x ∷ S) m is.0)) is.1)
            (Contains-cases x K m among)))
            (each (Contains (x ∷ K)) back (λ m among.
            let (inside, own) = of_group x.0 (x ∷ S) m among in
            ⊎_elim
            (λ (here : x ≡ m). subst (Contains (x ∷ K)) here (Contains-head x K))
            (λ (rest : Contains S m). Contains-cons x K m (chosen.all m (Contains-append_right P (x ∷ S) m inside) own (later m rest)))
            (Contains-cases x S m inside)))

    -- of later groups: where all of x's group above it are chosen, none before it is of its group, and a complete group above it isn't used
    pub least_of_later : ((n : Name) → Contains N n → n.0 ≡ x.0 → name_cmp x n ≡ Less → Contains (P ++ x ∷ S) n) → count P x.0 ≡ 0 → (g : ℕ) → x.0 < g
        → g < most_groups → is_complete T N g ≡ true → count (P ++ x ∷ S) g ≡ 0 → IsLeastThere (taken (suc groups_used))
    least_of_later all first g above small complete free =
        let Q = P ++ x ∷ S in
        let among : Contains (groups_above x.0) g = Contains-range_from (x.0 + 1) (most_groups - (x.0 + 1)) g (omega arith) (omega arith) in
        let unused : is_complete T Q g ≡ false = complete_is positive just g ∙ le-ltb 0 (count Q g) (omega arith) in
        let more : groups_used < length (groups_there T N positive sorted M C M_is C_is (x.0 + 1)) =
        length_less part g (subst (λ l. Contains l g) (sym there_is) (Contains-filter (is_complete T N) (groups_above x.0) g among complete))
        (λ used. false≢true (sym unused ∙ (of_filter (is_complete T Q) (groups_above x.0) g used).1)) in
        let own : is_complete T Q x.0 ≡ true = complete_is positive just x.0 ∙ lt-ltb 0 (count Q x.0) (counted Q x in_place) in
        let next : most_groups - x.0 ≡ suc (most_groups - (x.0 + 1)) = (let at = low in omega arith) in
        let wanted : length (filter (is_complete T Q) (range_with_len x.0 (most_groups - x.0))) ≡ suc groups_used =
        ap (λ k. length (filter (is_complete T Q) (range_with_len x.0 k))) next
        ∙ ap (λ b. length (cond b (x.0 ∷ filter (is_complete T Q) (groups_above x.0)) (filter (is_complete T Q) (groups_above x.0)))) own in
        let has : HasJust T N G (P ++ taken (suc groups_used)) =
        joined_just T N positive sorted M C M_is C_is G Q P x.0 (x.0 + 1) (suc groups_used) just (omega arith) (let at = low in omega arith)
        (AllPairs-append_left Precedes P (x ∷ S) just.ascending) (All-append_left (Contains N) P (x ∷ S) just.at_hand)
        (each (λ m. m.0 < x.0) P (λ m in_P.
        let order : m.0 ≤ x.0 = All-contains (λ p. p.0 ≤ x.0) P m upto in_P in
        let some : 0 < count P m.0 = counted P m in_P in
        elim (cases_lt m.0 x.0) [
          | inl less ↦ less
          | inr here ↦ (let same : count P m.0 ≡ count P x.0 = ap (λ h. count P h) (let e : m.0 ≡ x.0 = omega arith in e) in absurd (omega arith))
        ]))
        (λ h less. omega (arith, count-append P (x ∷ S) h, none_from_x h less)) (sym wanted) (omega arith) in
        record {
          has_just = has;
          later = taken-later (suc groups_used);
          least = λ y Z other less.
              taken_least T N positive sorted M C M_is C_is G below P [] (y ∷ Z) (x.0 + 1) 0 (suc groups_used) (AllPairs-nil Precedes)
              (All-nil (λ m. m.0 < x.0 + 1)) has other (λ m in_none. absurd (Contains-nil m in_none))
              (λ m in_back.
              let order : x.0 ≤ m.0 = groups-in_order x m (after_x y Z other less m in_back) in
              let apart = none_of_group all y Z other less m (Contains-append_right P (y ∷ Z) m in_back) in
              inr (omega arith));
        }
