-- The step to the next quorum, from what is known of a set.
use Rattle.std.proofs.Common.{◌≡◌, ◌≢◌, ℕ, suc, ◌+◌, ◌-◌, ◌<◌, ◌≤◌, false, List, [], ◌∷◌, ◌++◌, length, get_or, filter, map, take, drop, All}
use Rattle.std.proofs.Common.{Contains, Option, Some, None, Less, Greater, nat_lt, unwrap_or, sym, ap, ap₂, subst, ◌∙◌, arith, add-one, drop-cons}
use Rattle.std.proofs.Common.{append-nil, refl}
use Rattle.std.specs.Prelude.{IsTrue}
use Rattle.std.proofs.lemmas.Bool.{false≢true}
use Rattle.std.proofs.lemmas.List.{take-append-drop}
use Rattle.std.proofs.lemmas.List.Elements.{All-head, All-contains, Contains-append_right}
use Rattle.s39_words.specs.declared.share.ShareFields.{ShareFields}
use Rattle.s39_set.specs.declared.masks.Masks.{Masks}
use Rattle.s39_set.specs.declared.next.StepContext.{StepContext}
use Rattle.s39_set.specs.declared.next.Replacement.{Replacement}
use Rattle.s39_set.specs.declared.next.Replacement.TheVariants.{Group, LaterGroups}
use Rattle.s39_set.specs.Names.{Name, Names, name_cmp, names_cmp, AreNames, most_groups, most_members}
use Rattle.s39_set.specs.Groups.{is_complete, complete_groups, first_members, groups_above}
use Rattle.s39_set.specs.ShareSet.{IsShareSet, name_of}
use Rattle.s39_set.specs.Quorums.{group_threshold_of, member_threshold_of, IsQuorum, IsFirstQuorumAfter, HasNoQuorumAfter}
use Rattle.s39_set.specs.Masks.{is_in}
use Rattle.s39_set.specs.Steps.{AreMasksOf, AreCompleteGroups, Knows, members_from, members_taken, IsReplacementFor, groups_used, replacement_names}
use Rattle.s39_set.specs.Steps.{groups_taken}
use Rattle.s39_set.specs.Steps.{groups_from}
use Rattle.s39_set.proofs.Thresholds.{HasJust}
use Rattle.s39_lists.proofs.Sublists.{Contains-head}
use Rattle.s39_set.proofs.Ascending.{member-less}
use Rattle.s39_set.proofs.NamesOrder.{cmp-append, first-less}
use Rattle.s39_lists.proofs.Ranges.{filter-range_agree}
use Rattle.s39_set.proofs.ExactNames.{alone, complete_is}
use Rattle.s39_set.proofs.FromMasks.{names_in_group_masks, above_from_masks, higher_member}
use Rattle.s39_set.proofs.SetQuorums.{member_threshold-positive, groups-below, members-below, group_threshold-from_meets, just_of, of_just}
use Rattle.s39_set.proofs.SetQuorums.{written_of_quorum, first_is}
use Rattle.s39_set.proofs.Step.{AreAbove, nothing_greater, least_of_group, least_of_later}
use Rattle.s39_set.proofs.Greedy.{IsFull, none_after, first_after}

module _ (shares : List ShareFields) (is : IsShareSet shares) where
  abbrev T : ℕ → Option ℕ
  T = member_threshold_of shares

  abbrev N : Names
  N = map name_of shares

  -- what is taken of a group are its first members at hand
  pub taken_is : (masks : Masks) → AreMasksOf masks N → (g : ℕ) → g < most_groups → members_taken shares masks g ≡ first_members T N g
  taken_is masks masks_are g low =
      ap (take (unwrap_or (T g) 0)) (sym (names_in_group_masks masks N masks_are (members-below shares is) g low is.ascending))

  -- ---- at a name of a quorum

  module _ (context : StepContext) (P S : Names) (x : Name) (quorum : IsQuorum shares (P ++ x ∷ S)) (knows : Knows shares (P ++ x ∷ S) context) where
    abbrev Q : Names
    Q = P ++ x ∷ S

    names_are : AreNames Q
    names_are = (written_of_quorum shares is Q quorum).are_names

    in_place : Contains Q x
    in_place = Contains-append_right P (x ∷ S) x (Contains-head x S)

    low_g : x.0 < most_groups
    low_g = All-contains (λ n. n.0 < most_groups) Q x names_are.groups in_place

    low_m : x.1 < most_members
    low_m = All-contains (λ n. n.1 < most_members) Q x names_are.members in_place

    threshold : (G : ℕ) × (group_threshold_of shares ≡ Some G)
    threshold = group_threshold-from_meets shares Q quorum.meets

    just : (names : Names) → IsQuorum shares names → HasJust T N threshold.0 names
    just = just_of shares is threshold.0 threshold.1

    C_is : (g : ℕ) → g < most_groups → get_or context.complete g false ≡ is_complete T N g
    C_is = knows.complete

    at_hand : AreAbove N x (members_from context.at_hand x.0 (x.1 + 1))
    at_hand = above_from_masks context.at_hand N knows.at_hand (members-below shares is) x.0 low_g x.1

    chosen : AreAbove Q x (members_from context.chosen x.0 (x.1 + 1))
    chosen = above_from_masks context.chosen Q knows.chosen names_are.members x.0 low_g x.1

    used : groups_used context.members x.0 ≡ length (filter (is_complete T Q) (groups_above x.0))
    used =
        ap length (filter-range_agree (λ g. nat_lt 0 (get_or context.members g 0)) (is_complete T Q) (x.0 + 1) (most_groups - (x.0 + 1))
        (λ g from less.
        let low : g < most_groups = (let at = low_g in omega arith) in
        ap (λ n. nat_lt 0 n) (knows.members g low) ∙ sym (complete_is (member_threshold-positive shares is) (just Q quorum) g)))

    all_chosen : ((m : ℕ) → x.1 < m → m < most_members → IsTrue (is_in context.at_hand x.0 m) → IsTrue (is_in context.chosen x.0 m))
        → (n : Name) → Contains N n → n.0 ≡ x.0 → name_cmp x n ≡ Less → Contains Q n
    all_chosen all n among same less =
        let small : n.1 < most_members = All-contains (λ m. m.1 < most_members) N n (members-below shares is) among in
        let as_pair : (x.0, n.1) ≡ n = ap (λ g. (g, n.1)) (sym same) in
        let held = (knows.at_hand x.0 n.1 low_g small).1 (subst (Contains N) (sym as_pair) among) in
        subst (Contains Q) as_pair ((knows.chosen x.0 n.1 low_g small).0 (all n.1 (higher_member n.0 x.1 x.0 n.1 same less) small held))

    -- where nothing is to stand there, nothing greater can
    pub full : IsReplacementFor context P x None → (y : Name) (Z : Names) → IsQuorum shares (P ++ y ∷ Z) → name_cmp x y ≡ Less → ⊥
    full replacement y Z other less =
        nothing_greater T N threshold.0 (member_threshold-positive shares is) (groups-below shares is) is.ascending P S x (just Q quorum)
        (all_chosen replacement.0)
        (λ first g above low complete.
        let some = replacement.1 first g above low (knows.complete g low ∙ complete) in
        let counts = knows.members g low in
        omega arith)
        y Z (just (P ++ y ∷ Z) other) less

    -- what stands there makes a quorum, and nothing greater comes before it
    pub record Stands (R : Names) : Type 0 where
      pub is_quorum : IsQuorum shares (P ++ R)
      pub later : All (λ n. name_cmp x n ≡ Less) R
      pub least : (y : Name) (Z : Names) → IsQuorum shares (P ++ y ∷ Z) → name_cmp x y ≡ Less → names_cmp R (y ∷ Z) ≢ Greater

    stands_from : (R : Names) → HasJust T N threshold.0 (P ++ R) → All (λ n. name_cmp x n ≡ Less) R
        → ((y : Name) (Z : Names) → HasJust T N threshold.0 (P ++ y ∷ Z) → name_cmp x y ≡ Less → names_cmp R (y ∷ Z) ≢ Greater) → Stands R
    stands_from R has later least = record {
      later = later;
      is_quorum = of_just shares is threshold.0 threshold.1 (P ++ R) has;
      least = λ y Z other less. least y Z (just (P ++ y ∷ Z) other) less;
    }

    pub stands : (replacement : Replacement) → IsReplacementFor context P x (Some replacement) → Stands (replacement_names shares context x replacement)
    stands Group (m, (above, low, held, free)) =
        let A = members_from context.at_hand x.0 (x.1 + 1) in
        let K = members_from context.chosen x.0 (x.1 + 1) in
        let n : Name = (x.0, m) in
        let in_A : Contains A n = at_hand.all n ((knows.at_hand x.0 m low_g low).0 held) refl (member-less x.0 x.1 m above) in
        let l =
        least_of_group T N threshold.0 (member_threshold-positive shares is) (groups-below shares is) is.ascending P S x (just Q quorum)
        (members_taken shares context.at_hand) (λ g. get_or context.complete g false) (taken_is context.at_hand knows.at_hand) C_is A K at_hand chosen n in_A
        (λ in_K. false≢true (sym free ∙ (knows.chosen x.0 m low_g low).1 (chosen.only n in_K).0)) in
        subst Stands
        (ap₂ (λ k w. take k A ++ groups_taken shares context (x.0 + 1) w) (sym (add-one (length K))) (sym used))
        (stands_from (take (suc (length K)) A ++ groups_taken shares context (x.0 + 1) (length (filter (is_complete T Q) (groups_above x.0))))
        l.has_just l.later l.least)
    stands LaterGroups (all, first, (g, (above, low, complete, none))) =
        let l =
        least_of_later T N threshold.0 (member_threshold-positive shares is) (groups-below shares is) is.ascending P S x (just Q quorum)
        (members_taken shares context.at_hand) (λ h. get_or context.complete h false) (taken_is context.at_hand knows.at_hand) C_is
        (all_chosen all) first g above low
        (sym (knows.complete g low) ∙ complete) (sym (knows.members g low) ∙ none) in
        subst Stands
        (ap (groups_taken shares context (x.0 + 1)) (sym (add-one (groups_used context.members x.0) ∙ ap suc used)))
        (stands_from (groups_taken shares context (x.0 + 1) (suc (length (filter (is_complete T Q) (groups_above x.0))))) l.has_just l.later l.least)

  -- ---- at a position

  module _ (Q : Names) (quorum : IsQuorum shares Q) where
    pub apart : (xs : Names) (z : Name) (zs : Names) → IsQuorum shares xs → IsQuorum shares (xs ++ z ∷ zs) → ⊥
    apart xs z zs one longer =
        let (G, e) = group_threshold-from_meets shares xs one.meets in
        alone (groups-below shares is) xs z zs (just_of shares is G e xs one) (just_of shares is G e (xs ++ z ∷ zs) longer)

    parts : (i : ℕ) → i < length Q → Q ≡ take i Q ++ get_or Q i (0, 0) ∷ drop (suc i) Q
    parts i inside = sym (take-append-drop i Q) ∙ ap (λ l. take i Q ++ l) (drop-cons Q i (0, 0) inside)

    abbrev pub IsFullAt : ℕ → Type 0
    IsFullAt i = IsFull (IsQuorum shares) apart Q i

    pub full_at : (context : StepContext) → Knows shares Q context → (i : ℕ) → i < length Q
        → IsReplacementFor context (take i Q) (get_or Q i (0, 0)) None → IsFullAt i
    full_at context knows i inside =
        full context (take i Q) (drop (suc i) Q) (get_or Q i (0, 0)) (subst (IsQuorum shares) (parts i inside) quorum)
        (subst (λ q. Knows shares q context) (parts i inside) knows)

    -- no quorum comes after one that is full
    pub none_next : ((j : ℕ) → j < length Q → IsFullAt j) → HasNoQuorumAfter shares (Some Q)
    none_next all other is_quorum after = none_after (IsQuorum shares) apart Q other quorum is_quorum all after

    -- what stands at a position comes after the name there
    pub later_next : (context : StepContext) → Knows shares Q context → (i : ℕ) → i < length Q → (replacement : Replacement)
        → IsReplacementFor context (take i Q) (get_or Q i (0, 0)) (Some replacement)
        → All (λ n. name_cmp (get_or Q i (0, 0)) n ≡ Less) (replacement_names shares context (get_or Q i (0, 0)) replacement)
    later_next context knows i inside replacement can =
        (stands context (take i Q) (drop (suc i) Q) (get_or Q i (0, 0)) (subst (IsQuorum shares) (parts i inside) quorum)
        (subst (λ q. Knows shares q context) (parts i inside) knows) replacement can).later

    -- what stands at the last position that isn't full makes the first quorum after it
    pub first_next : (context : StepContext) → Knows shares Q context → (i : ℕ) → i < length Q
        → ((j : ℕ) → i < j → j < length Q → IsFullAt j) → (replacement : Replacement)
        → IsReplacementFor context (take i Q) (get_or Q i (0, 0)) (Some replacement)
        → IsFirstQuorumAfter shares (Some Q) (take i Q ++ replacement_names shares context (get_or Q i (0, 0)) replacement)
    first_next context knows i inside all replacement can =
        let P = take i Q in
        let S = drop (suc i) Q in
        let x = get_or Q i (0, 0) in
        let s =
        stands context P S x (subst (IsQuorum shares) (parts i inside) quorum)
        (subst (λ q. Knows shares q context) (parts i inside) knows) replacement can in
        record {
          quorum = s.is_quorum;
          after = subst (λ q. names_cmp q (P ++ replacement_names shares context x replacement) ≡ Less) (sym (parts i inside))
              (cmp-append P (x ∷ S) (replacement_names shares context x replacement)
              ∙ comes_after P S x (replacement_names shares context x replacement) (parts i inside) s.is_quorum s.later);
          least = λ other is_quorum after.
              first_after (IsQuorum shares) apart Q other (replacement_names shares context x replacement) i quorum is_quorum all s.least after;
        }
      where
        comes_after : (P S : Names) (x : Name) (R : Names) → Q ≡ P ++ x ∷ S → IsQuorum shares (P ++ R) → All (λ n. name_cmp x n ≡ Less) R
            → names_cmp (x ∷ S) R ≡ Less
        comes_after P S x [] whole front later =
            absurd (apart P x S (subst (IsQuorum shares) (append-nil P) front) (subst (IsQuorum shares) whole quorum))
        comes_after P S x (r ∷ R) whole front later = first-less x r S R (All-head (λ n. name_cmp x n ≡ Less) r R later)

  -- ---- the first quorum

  pub least_first : (context : StepContext) → AreCompleteGroups context.complete shares → AreMasksOf context.at_hand N → (required : ℕ)
      → group_threshold_of shares ≡ Some required → required ≤ length (groups_from context.complete 0)
      → IsFirstQuorumAfter shares None (groups_taken shares context 0 required)
  least_first context complete at_hand required e enough =
      first_is shares is required e (members_taken shares context.at_hand) (λ g. get_or context.complete g false)
      (taken_is context.at_hand at_hand) complete enough

  -- the table's groups are the complete ones
  pub groups_from_complete : (context : StepContext) → AreCompleteGroups context.complete shares → groups_from context.complete 0 ≡ complete_groups T N
  groups_from_complete context complete =
      filter-range_agree (λ g. get_or context.complete g false) (is_complete T N) 0 most_groups (λ g _ low. complete g (omega arith))
