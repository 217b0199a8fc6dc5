-- How many quorums a set has.
use Rattle.std.proofs.Common.{◌≡◌, ◌≢◌, ℕ, zero, suc, ◌+◌, ◌<◌, ◌≤◌, ◌==◌, Bool, true, false, cond, List, [], ◌∷◌, ◌++◌, length, filter, map}
use Rattle.std.proofs.Common.{All, AllPairs, Contains, Option, Some, None, nat_eq, nat_lt, ⊎_elim, refl, sym, ap, ap₂, subst, ◌∙◌, arith}
use Rattle.std.specs.Bool.{Decides}
use Rattle.std.specs.List.{range_with_len, flat_map}
use Rattle.std.specs.Option.{option_eq, option_map_or}
use Rattle.std.proofs.lemmas.Bool.{false≢true, eq-eqb, lt-ltb}
use Rattle.std.proofs.lemmas.Bool.Decides.{Decides-and}
use Rattle.std.proofs.lemmas.List.Elements.{All-weaker, All-contains}
use Rattle.s39_words.specs.declared.share.ShareFields.{ShareFields}
use Rattle.s39_set.specs.Names.{Names, IsAscending, names_in_group, most_groups}
use Rattle.s39_set.specs.ShareSet.{IsShareSet, name_of}
use Rattle.s39_set.specs.Quorums.{member_threshold_of, HasJustTheMembers}
use Rattle.s39_set.specs.Listing.{AreAllQuorumsAfter}
use Rattle.s39_set.specs.Counting.{ways, choices, quorum_count}
use Rattle.s39_lists.proofs.Sublists.{IsSublist, each, filter-all, All-sublist, Contains-head, Contains-cons, Contains-cases, Contains-nil}
use Rattle.s39_lists.proofs.Pairs.{AllPairs-head, AllPairs-tail}
use Rattle.s39_lists.proofs.Ranges.{range-ascending, range-below, Contains-range}
use Rattle.s39_set.proofs.Ascending.{same_names}
use Rattle.s39_set.proofs.OptionTests.{same_from_option_eq, option_eq-same}
use Rattle.s39_set.proofs.MembersOf.{count, of_group, in_group, group-ascending, none_counted, count-append, names_in_group-group}
use Rattle.s39_set.proofs.Completion.{one_of_flat_map, Contains-flat_map, flat_map-ascending}
use Rattle.s39_set.proofs.SetQuorums.{member_threshold-positive, groups-below}
use Rattle.s39_set.proofs.JustMembers.{has_members, exact_from_just, just_from_exact, groups_from_just}
use Rattle.s39_set.proofs.Listings.{one_list}
use Rattle.s39_set.proofs.AllQuorums.{all_quorums, all_quorums-listed, passes, passes-decides}
use Rattle.s39_set.proofs.Passing.{passing, passing-length, passing-same, passing-append, passing-group, fits, length-filter-cons}

-- ---- which names fit

positive-one : (n many : ℕ) → cond (nat_lt 0 (suc n)) 1 0 + many ≡ suc many
positive-one n many =
    let one : 1 + many ≡ suc many = omega arith in
    ap (λ b. cond b 1 0 + many) (lt-ltb 0 (suc n) (omega arith)) ∙ one

-- one count more
fits-more : (o : Option ℕ) (n required many : ℕ) (ts : List (Option ℕ)) (counts : List ℕ) (R : Type 0)
    → ((k : ℕ) → Decides (fits ts k counts) ((k ≡ many) × R))
    → Decides (fits (o ∷ ts) required (n ∷ counts)) ((required ≡ cond (nat_lt 0 n) 1 0 + many) × ((0 < n → o ≡ Some n) × R))
fits-more o zero required many ts counts R rest = (
  λ fit. let (same, others) = (rest required).0 fit in ((omega arith), ((λ some. absurd (omega arith)), others)),
  λ (same, exact). (rest required).1 ((omega arith), exact.1),
)
fits-more o (suc n) zero many ts counts R rest =
    let more : cond (nat_lt 0 (suc n)) 1 0 + many ≡ suc many = positive-one n many in
    (λ fit. absurd (false≢true fit), λ (same, exact). absurd (omega arith))
fits-more o (suc n) (suc k) many ts counts R rest =
    let more : cond (nat_lt 0 (suc n)) 1 0 + many ≡ suc many = positive-one n many in
    let both = Decides-and (option_eq nat_eq o (Some (suc n))) (fits ts k counts) (same_from_option_eq o (suc n), option_eq-same o (suc n)) (rest k) in (
      λ fit. let (exact, others) = both.0 fit in ((let same = others.0 in omega arith), ((λ some. exact), others.1)),
      λ (same, exact). both.1 (exact.0 (omega arith), ((omega arith), exact.1)),
    )

module _ (T : ℕ → Option ℕ) where
  -- just so many of the groups have names, and each of these as many as its threshold
  abbrev fitting : List ℕ → ℕ → Names → Bool
  fitting gs required names = fits (map T gs) required (map (count names) gs)

  fitting-decides : (names : Names) (gs : List ℕ) (required : ℕ)
      → Decides (fitting gs required names)
      ((required ≡ length (filter (has_members names) gs)) × ((g : ℕ) → Contains gs g → 0 < count names g → T g ≡ Some (count names g)))
  fitting-decides names [] zero = (λ fit. (refl, λ g among some. absurd (Contains-nil g among)), λ _. refl)
  fitting-decides names [] (suc k) = (λ fit. absurd (false≢true fit), λ (same, exact). absurd (omega arith))
  fitting-decides names (g ∷ gs) required =
      let first = length-filter-cons (has_members names) g gs in
      let both = fits-more (T g) (count names g) required (length (filter (has_members names) gs)) (map T gs) (map (count names) gs)
      ((h : ℕ) → Contains gs h → 0 < count names h → T h ≡ Some (count names h)) (λ k. fitting-decides names gs k) in (
        λ fit.
            let (same, exact) = both.0 fit in (
              same ∙ sym first,
              λ h among some.
                  ⊎_elim
                  (λ (here : g ≡ h). subst (λ i. T i ≡ Some (count names i)) here (exact.0 (subst (λ i. 0 < count names i) (sym here) some)))
                  (λ (later : Contains gs h). exact.1 h later some)
                  (Contains-cases g gs h among),
            ),
        λ (same, exact).
            both.1 (same ∙ first, (λ some. exact g (Contains-head g gs) some, λ h among some. exact h (Contains-cons g gs h among) some)),
      )

  module _ (N : Names) where
    abbrev members_of : ℕ → Names
    members_of g = names_in_group g N

    abbrev group_choices : ℕ → ℕ
    group_choices g = option_map_or (choices (length (members_of g))) (T g) 0

    -- names in front of others count nothing in groups of which they aren't
    counts-behind : (gs : List ℕ) (front back : Names) → ((g : ℕ) → Contains gs g → count front g ≡ 0)
        → map (count (front ++ back)) gs ≡ map (count back) gs
    counts-behind [] front back apart = refl
    counts-behind (g ∷ gs) front back apart =
        let none : count front g ≡ 0 = apart g (Contains-head g gs) in
        let here : count (front ++ back) g ≡ count back g = omega (arith, count-append front back g) in
        ap₂ ◌∷◌ here (counts-behind gs front back (λ h among. apart h (Contains-cons g gs h among)))

    counts-with : (g : ℕ) (gs : List ℕ) → All (λ h. g < h) gs → (front back : Names) → IsSublist front (members_of g)
        → IsSublist back (flat_map members_of gs)
        → map (count (front ++ back)) (g ∷ gs) ≡ length front ∷ map (count back) gs
    counts-with g gs above front back s r =
        let own : All (λ n. n.0 ≡ g) front = All-sublist (λ n. n.0 ≡ g) front (members_of g) s (names_in_group-group g N) in
        let all : count front g ≡ length front =
        ap length (filter-all (λ n. n.0 == g) front (All-weaker (λ n. n.0 ≡ g) (λ n. (n.0 == g) ≡ true) (λ n same. eq-eqb n.0 g same) front own)) in
        let others : All (λ n. n.0 ≢ g) back =
        All-sublist (λ n. n.0 ≢ g) back (flat_map members_of gs) r
        (each (λ n. n.0 ≢ g) (flat_map members_of gs)
        (λ n among.
        let (h, in_gs, in_h) = one_of_flat_map members_of gs n among in
        let less : g < h = All-contains (λ k. g < k) gs h above in_gs in
        let of_h : n.0 ≡ h = (of_group h N n in_h).1 in
        λ same. omega arith)) in
        let none : count back g ≡ 0 = none_counted g back others in
        let here : count (front ++ back) g ≡ length front = omega (arith, count-append front back g) in
        ap₂ ◌∷◌ here
        (counts-behind gs front back
        (λ h among.
        let less : g < h = All-contains (λ k. g < k) gs h above among in
        none_counted h front (All-weaker (λ n. n.0 ≡ g) (λ n. n.0 ≢ h) (λ n of_g same. omega arith) front own)))

    -- how many parts of the names of ascending groups fit
    passing-groups : ((g t : ℕ) → T g ≡ Some t → 1 ≤ t) → (gs : List ℕ) → AllPairs (λ g h. g < h) gs → (required : ℕ)
        → passing (fitting gs required) (flat_map members_of gs) ≡ ways (map group_choices gs) required
    passing-groups positive [] order zero = refl
    passing-groups positive [] order (suc k) = refl
    passing-groups positive (g ∷ gs) order required =
        passing-append (fitting (g ∷ gs) required) (λ long back. fits (T g ∷ map T gs) required (long ∷ map (count back) gs))
        (members_of g) (flat_map members_of gs)
        (λ front back s r. ap (fits (T g ∷ map T gs) required) (counts-with g gs (AllPairs-head (λ g h. g < h) g gs order) front back s r))
        ∙ passing-group (T g) (positive g) (length (members_of g)) required (map T gs) (λ back. map (count back) gs) (flat_map members_of gs)
        (map group_choices gs) (λ k. passing-groups positive gs (AllPairs-tail (λ g h. g < h) g gs order) k)

    -- names in order are those of their groups, joined
    joined : IsAscending N → All (λ n. n.0 < most_groups) N → N ≡ flat_map members_of (range_with_len 0 most_groups)
    joined ascending below =
        let gs = range_with_len 0 most_groups in
        same_names N (flat_map members_of gs) ascending
        (flat_map-ascending members_of gs (range-ascending most_groups) (λ g _. (group-ascending g N ascending, λ n here. (of_group g N n here).1)))
        (each (Contains N) (flat_map members_of gs)
        (λ n among. let (g, _, here) = one_of_flat_map members_of gs n among in (of_group g N n here).0))
        (each (Contains (flat_map members_of gs)) N
        (λ n among.
        Contains-flat_map members_of gs n.0 n (Contains-range most_groups n.0 (All-contains (λ m. m.0 < most_groups) N n below among))
        (in_group n.0 N n among refl)))

-- ---- the quorums

same_tests : (b d : Bool) → (b ≡ true → d ≡ true) → (d ≡ true → b ≡ true) → b ≡ d
same_tests true d there back = sym (there refl)
same_tests false true there back = back refl
same_tests false false there back = refl

-- the list of all quorums is as long
all-counted : (set : List ShareFields) (is : IsShareSet set) → length (all_quorums set is None) ≡ quorum_count set
all-counted [] is = refl
all-counted (share ∷ shares) is =
    let set = share ∷ shares in
    let T = member_threshold_of set in
    let N = map name_of set in
    let required = share.group_threshold in
    let gs = range_with_len 0 most_groups in
    let below = groups-below set is in
    passing-length (passes set is None) N
    ∙ passing-same (passes set is None) (fitting T gs required) N
    (λ part s.
    let test = passes-decides set is None part in
    let fit = fitting-decides T part gs required in
    same_tests (passes set is None part) (fitting T gs required part)
    (λ passed.
    let just : HasJustTheMembers set part = (test.0 passed).0 in
    let same : Some required ≡ Some (length (filter (has_members part) gs)) = groups_from_just set part is just in
    fit.1 ((cc), λ g among some. exact_from_just set part just g (All-contains (λ h. h < most_groups) gs g (range-below most_groups) among) some))
    (λ fitted.
    let (same, exact) = fit.0 fitted in
    test.1 (
      just_from_exact set part is (All-sublist (λ n. n.0 < most_groups) part N s below)
          (λ g low some. exact g (Contains-range most_groups g low) some) (ap Some same),
      tt,
    )))
    ∙ ap (passing (fitting T gs required)) (joined T N is.ascending below)
    ∙ passing-groups T N (member_threshold-positive set is) gs (range-ascending most_groups) required

pub counted : (set : List ShareFields) (quorums : List Names) → IsShareSet set → AreAllQuorumsAfter set None quorums
    → length quorums ≡ quorum_count set
counted set quorums is all = ap length (one_list set None quorums (all_quorums set is None) all (all_quorums-listed set is None)) ∙ all-counted set is
