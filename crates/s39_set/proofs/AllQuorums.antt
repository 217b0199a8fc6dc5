-- All quorums of a set, listed.
use Rattle.std.proofs.Common.{◌≡◌, ℕ, Bool, true, List, [], ◌∷◌, ◌++◌, length, get_or, map, filter, take, All, Contains, Option, Some, None}
use Rattle.std.proofs.Common.{Ordering, Less, Equal, Greater, nat_eq, ⊎_elim, refl, ap, subst}
use Rattle.std.specs.Prelude.{◌&&◌}
use Rattle.std.specs.Bool.{Decides}
use Rattle.std.specs.List.{list_all}
use Rattle.std.specs.Ordering.{is_lt}
use Rattle.std.specs.Option.{option_eq}
use Rattle.std.proofs.lemmas.Bool.{false≢true}
use Rattle.std.proofs.lemmas.Bool.Decides.{Decides-and, Decides-by_and, Decides-like}
use Rattle.std.proofs.lemmas.Cmp.{tied_itself}
use Rattle.std.proofs.lemmas.List.Elements.{All-nil, All-cons, All-tail, All-append, All-map, All-weaker, All-contains}
use Rattle.std.proofs.lemmas.List.Elements.{Contains-append_left, Contains-append_right}
use Rattle.std.proofs.lemmas.List.Kept.{AllPairs-cons, AllPairs-filter}
use Rattle.s39_words.specs.declared.share.ShareFields.{ShareFields}
use Rattle.s39_set.specs.Names.{Name, Names, names_cmp, names_in_group, IsAscending, AreInOrder}
use Rattle.s39_set.specs.Groups.{complete_groups}
use Rattle.s39_set.specs.ShareSet.{IsShareSet, name_of}
use Rattle.s39_set.specs.Quorums.{group_threshold_of, member_threshold_of, ComesAfter, HasJustTheMembers}
use Rattle.s39_set.specs.Listing.{AreAllQuorumsAfter, IsListing}
use Rattle.s39_lists.proofs.Images.{Contains-map, one_of_map}
use Rattle.s39_lists.proofs.Pairs.{AllPairs-nil, AllPairs-head, AllPairs-tail, AllPairs-map}
use Rattle.s39_lists.proofs.Sublists.{IsSublist, none, keeps, leaves, nil-sublist, Contains-head, Contains-cons, Contains-cases}
use Rattle.s39_lists.proofs.Sublists.{Contains-filter, Contains-sublist, of_filter, AllPairs-append, AllPairs-sublist}
use Rattle.s39_set.proofs.Ascending.{Precedes, name_cmp_total, names-sublist}
use Rattle.s39_set.proofs.NamesOrder.{first-less}
use Rattle.s39_set.proofs.OptionTests.{same_from_option_eq, option_eq-same}
use Rattle.s39_set.proofs.SetQuorums.{just_from_quorum, quorum_from_just}

-- ---- the parts of a list

-- those with elements; the empty one comes before them
abbrev pub parts_of : Names → List Names
parts_of [] = []
parts_of (x ∷ xs) = map (λ ys. x ∷ ys) ([] ∷ parts_of xs) ++ parts_of xs

-- a list has a first element, which is one of these
abbrev BeginsIn : Names → Names → Type 0
BeginsIn xs part = (first : Name) × (others : Names) × Contains xs first × (part ≡ first ∷ others)

parts-begin : (xs : Names) → All (BeginsIn xs) (parts_of xs)
parts-begin [] = All-nil (BeginsIn [])
parts-begin (x ∷ xs) =
    All-append (BeginsIn (x ∷ xs)) (map (λ ys. x ∷ ys) ([] ∷ parts_of xs)) (parts_of xs)
    (All-map (BeginsIn (x ∷ xs)) (λ ys. x ∷ ys) ([] ∷ parts_of xs) (λ k d below. (x, get_or ([] ∷ parts_of xs) k d, Contains-head x xs, refl)))
    (All-weaker (BeginsIn xs) (BeginsIn (x ∷ xs)) (λ part b. (b.0, b.1, Contains-cons x xs b.0 b.2, b.3)) (parts_of xs) (parts-begin xs))

abbrev ComesFirst : Names → Names → Type 0
ComesFirst xs ys = names_cmp xs ys ≡ Less

parts-ascending : (xs : Names) → IsAscending xs → AreInOrder ([] ∷ parts_of xs)
parts-ascending [] ascending = AllPairs-cons ComesFirst [] [] (All-nil (ComesFirst [])) (AllPairs-nil ComesFirst)
parts-ascending (x ∷ xs) ascending =
    let rest = parts-ascending xs (AllPairs-tail Precedes x xs ascending) in
    AllPairs-cons ComesFirst [] (parts_of (x ∷ xs))
    (All-weaker (BeginsIn (x ∷ xs)) (ComesFirst []) (λ part b. rw b.3 refl) (parts_of (x ∷ xs)) (parts-begin (x ∷ xs)))
    (AllPairs-append ComesFirst (map (λ ys. x ∷ ys) ([] ∷ parts_of xs)) (parts_of xs)
    (AllPairs-map ComesFirst (λ ys. x ∷ ys) ([] ∷ parts_of xs) (λ i j d before below. rw (tied_itself name_cmp_total x) (rest i j d before below)))
    (AllPairs-tail ComesFirst [] (parts_of xs) rest)
    (λ front among.
    let (ys, _, same) = one_of_map (λ zs. x ∷ zs) ([] ∷ parts_of xs) front among in
    All-weaker (BeginsIn xs) (ComesFirst front)
    (λ part b. rw (← same, b.3) (first-less x b.0 ys b.1 (All-contains (Precedes x) xs b.0 (AllPairs-head Precedes x xs ascending) b.2)))
    (parts_of xs) (parts-begin xs)))

parts-sublists : (xs : Names) → All (λ part. IsSublist part xs) ([] ∷ parts_of xs)
parts-sublists [] = All-cons (λ part. IsSublist part []) [] [] none (All-nil (λ part. IsSublist part []))
parts-sublists (x ∷ xs) =
    let rest = parts-sublists xs in
    All-cons (λ part. IsSublist part (x ∷ xs)) [] (parts_of (x ∷ xs)) (nil-sublist (x ∷ xs))
    (All-append (λ part. IsSublist part (x ∷ xs)) (map (λ ys. x ∷ ys) ([] ∷ parts_of xs)) (parts_of xs)
    (All-map (λ part. IsSublist part (x ∷ xs)) (λ ys. x ∷ ys) ([] ∷ parts_of xs)
    (All-weaker (λ part. IsSublist part xs) (λ part. IsSublist (x ∷ part) (x ∷ xs)) (λ part s. keeps s) ([] ∷ parts_of xs) rest))
    (All-weaker (λ part. IsSublist part xs) (λ part. IsSublist part (x ∷ xs)) (λ part s. leaves s) (parts_of xs)
    (All-tail (λ part. IsSublist part xs) [] (parts_of xs) rest)))

Contains-parts : {part xs : Names} → IsSublist part xs → Contains ([] ∷ parts_of xs) part
Contains-parts none = Contains-head [] []
Contains-parts (keeps {x} {ys} {xs} s) =
    Contains-cons [] (parts_of (x ∷ xs)) (x ∷ ys)
    (Contains-append_left (map (λ zs. x ∷ zs) ([] ∷ parts_of xs)) (parts_of xs) (x ∷ ys)
    (Contains-map (λ zs. x ∷ zs) ([] ∷ parts_of xs) ys (Contains-parts s)))
Contains-parts (leaves {x} {ys} {xs} s) =
    ⊎_elim
    (λ (empty : [] ≡ ys). subst (Contains ([] ∷ parts_of (x ∷ xs))) empty (Contains-head [] (parts_of (x ∷ xs))))
    (λ (later : Contains (parts_of xs) ys). Contains-cons [] (parts_of (x ∷ xs)) ys
    (Contains-append_right (map (λ zs. x ∷ zs) ([] ∷ parts_of xs)) (parts_of xs) ys later))
    (Contains-cases [] (parts_of xs) ys (Contains-parts s))

-- ---- tests

-- whether names come after a given list
abbrev after_test : Option Names → Names → Bool
after_test None names = true
after_test (Some given) names = is_lt (names_cmp given names)

less_from_test : (o : Ordering) → is_lt o ≡ true → o ≡ Less
less_from_test Less h = refl
less_from_test Equal h = absurd (false≢true h)
less_from_test Greater h = absurd (false≢true h)

comes_after : (given : Option Names) (names : Names) → Decides (after_test given names) (ComesAfter given names)
comes_after None names = (λ _. tt, λ _. refl)
comes_after (Some given) names = (less_from_test (names_cmp given names), λ less. ap is_lt less)

module _ (set : List ShareFields) where
  -- whether names have just the members that the thresholds ask
  abbrev groups_test : Names → Bool
  groups_test names = option_eq nat_eq (group_threshold_of set) (Some (length (complete_groups (member_threshold_of set) names)))

  abbrev member_test : Names → Name → Bool
  member_test names name = option_eq nat_eq (member_threshold_of set name.0) (Some (length (names_in_group name.0 names)))

  has_just : (names : Names) → Decides (groups_test names && list_all (member_test names) names) (HasJustTheMembers set names)
  has_just names =
      Decides-like (groups_test names && list_all (member_test names) names) (λ both. record { groups = both.0; members = both.1 })
      (λ has. (has.groups, has.members))
      (Decides-and (groups_test names) (list_all (member_test names) names)
      (same_from_option_eq (group_threshold_of set) _, option_eq-same (group_threshold_of set) _)
      (Decides-by_and (member_test names) (λ name. member_threshold_of set name.0 ≡ Some (length (names_in_group name.0 names)))
      (list_all (member_test names)) (λ name. (same_from_option_eq (member_threshold_of set name.0) _, option_eq-same (member_threshold_of set name.0) _))
      refl (λ _ _. refl) names))

-- ---- all quorums

module _ (set : List ShareFields) (is : IsShareSet set) (given : Option Names) where
  abbrev pub passes : Names → Bool
  passes names = (groups_test set names && list_all (member_test set names) names) && after_test given names

  -- the test is passed by those
  pub passes-decides : (names : Names) → Decides (passes names) (HasJustTheMembers set names × ComesAfter given names)
  passes-decides names =
      Decides-and (groups_test set names && list_all (member_test set names) names) (after_test given names) (has_just set names) (comes_after given names)

  -- all quorums that come after a given list
  abbrev pub all_quorums : List Names
  all_quorums = filter passes ([] ∷ parts_of (map name_of set))

  pub all_quorums-listed : AreAllQuorumsAfter set given all_quorums
  all_quorums-listed =
      let N = map name_of set in
      let parts = [] ∷ parts_of N in
      record {
        ascending = AllPairs-filter ComesFirst passes parts (parts-ascending N is.ascending);
        each = λ names. (
          λ among.
              let (inside, passed) = of_filter passes parts names among in
              let (just, after) = (passes-decides names).0 passed in
              let part : IsSublist names N = All-contains (λ part. IsSublist part N) parts names (parts-sublists N) inside in
              let quorum = quorum_from_just set is names (record {
                at_hand = record { ascending = AllPairs-sublist Precedes part is.ascending; at_hand = Contains-sublist part };
                just = just;
              }) in
              (quorum, after),
          λ (quorum, after).
              let has = just_from_quorum set is names quorum in
              let part = names-sublist N names is.ascending has.at_hand.ascending has.at_hand.at_hand in
              Contains-filter passes parts names (Contains-parts part) ((passes-decides names).1 (has.just, after)),
        );
      }

  -- there is a listing
  pub listing : (limit : ℕ) → IsListing set given limit (take limit all_quorums)
  listing limit = record { all = all_quorums; all_are = all_quorums-listed; listed_are = refl }
