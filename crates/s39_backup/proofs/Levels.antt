-- The shares of a group of a quorum, and those of its groups.
use Rattle.std.proofs.Common.{◌≡◌, ◌≢◌, ℕ, ◌+◌, ◌-◌, ◌%◌, ◌<◌, ◌≤◌, ◌==◌, Bool, false, List, [], ◌∷◌, ◌++◌, length, get_or, take, filter, map, All, AllPairs}
use Rattle.std.proofs.Common.{Contains, Option, Some, None, Ok, Err, Less, nat_lt, nat_le, cond, inl, inr, refl, sym, ap, subst, ◌∙◌, arith}
use Rattle.std.specs.Prelude.{IsSomeAnd, ◌↔◌}
use Rattle.std.specs.List.{range_with_len}
use Rattle.std.specs.Option.{option_map_or, ok_or}
use Rattle.std.proofs.lemmas.Bool.{cases_lt, eqb-true, eq-eqb, lt-ltb, le-ltb, le-leb, lt-leb, ltb-true}
use Rattle.std.proofs.lemmas.Bool.Decides.{nat_tests}
use Rattle.std.proofs.lemmas.List.{length-map}
use Rattle.std.proofs.lemmas.List.Elements.{All-map, All-filter, All-contains, filter_passes}
use Rattle.std.proofs.lemmas.List.Folds.{map_fixed}
use Rattle.std.proofs.lemmas.List.Sums.{length-filter, count_by-le-length, count_by_more_yes, sum_by-take-le}
use Rattle.std.proofs.lemmas.List.FromFn.{length-range_with_len}
use Rattle.std.proofs.lemmas.List.Kept.{AllPairs-filter}
use Rattle.s39_words.specs.declared.share.ShareFields.{ShareFields}
use Rattle.s39_words.specs.Share.{IsShare}
use Rattle.s39_set.specs.Names.{Name, Names, most_groups, most_members, name_cmp, names_in_group}
use Rattle.s39_set.specs.Groups.{is_complete}
use Rattle.s39_set.specs.ShareSet.{name_of}
use Rattle.s39_set.specs.Quorums.{group_threshold_of, member_threshold_of}
use Rattle.s39_kdf.specs.Bytes.{AreBytes}
use Rattle.s39_split.specs.Sharing.{most_shares}
use Rattle.s39_split.specs.Recovery.{Combines, combined}
use Rattle.s39_backup.specs.declared.combination.Mismatch.{Mismatch}
use Rattle.s39_backup.specs.declared.combination.Mismatch.TheVariants.{OfGroups}
use Rattle.s39_backup.specs.Combination.{value_of, member_shares, groups_of, group_share, combination_of}
use Rattle.s39_backup.specs.GroupShares.{value_bytes_of, groups_below, IsExactQuorum, AreOfOneLevel}
use Rattle.s39_lists.specs.Each.{each}
use Rattle.s39_lists.proofs.Each.{from_ok_or, then_gives, each-length, each-push, each-stop, each-values, each-images}
use Rattle.s39_lists.proofs.Pairs.{All-from_map, AllPairs-from_map, AllPairs-map}
use Rattle.s39_lists.proofs.Images.{filter_alike}
use Rattle.s39_lists.proofs.Ranges.{range-below, filter-range_more_yes, filter-range_more_no, range-distinct, filter-range_parts}
use Rattle.s39_backup.proofs.Combining.{IsLike, combined_is, combined_like, share_is}
use Rattle.s39_backup.proofs.Values.{has_share, values_agree, value_bytes-long, bytes-value_of, length-value_of}
use Rattle.s39_backup.proofs.Values.{member_threshold-positive, group_threshold-positive}

-- a set with a group threshold has a share
pub some_share : (set : List ShareFields) (threshold : ℕ) → group_threshold_of set ≡ Some threshold → (share : ShareFields) × Contains set share
some_share [] threshold e = absurd (let none : None ≡ Some threshold = e in cc)
some_share (s ∷ ss) threshold e = (s, (0, omega arith, refl))

-- a name of a group is among these
abbrev has_name_in : Names → ℕ → Bool
has_name_in names group = nat_lt 0 (length (names_in_group group names))

-- ---- the shares of a group

same_group : (a b : Name) (group : ℕ) → a.0 ≡ group → b.0 ≡ group → name_cmp a b ≡ Less → a.1 ≢ b.1
same_group a b group first second less same = grind (arith, nat_tests)

-- a group has a share for each of its names
pub length-member_shares : (set : List ShareFields) (names : Names) (group : ℕ)
    → length (member_shares set names group) ≡ length (names_in_group group names)
length-member_shares set names group = length-map (names_in_group group names) (λ name. (name.1, value_of set name))

module _ (set : List ShareFields) (names : Names) (quorum : IsExactQuorum set names) where
  module _ (group : ℕ) where
    pub in_group : All (λ name. name.0 ≡ group) (names_in_group group names)
    in_group k d within = eqb-true (get_or (names_in_group group names) k d).0 group (filter_passes (λ name. name.0 == group) names k d within)

    pub group_at_hand : All (Contains (map name_of set)) (names_in_group group names)
    group_at_hand = All-filter (λ name. name.0 == group) (Contains (map name_of set)) names quorum.exact.at_hand.at_hand

    -- a group has just as many names as its threshold asks, if any
    pub member_threshold_is : 0 < length (names_in_group group names) → member_threshold_of set group ≡ Some (length (names_in_group group names))
    member_threshold_is some =
        let here : ((get_or (names_in_group group names) 0 (0, 0)).0 ≡ group) = in_group 0 (0, 0) some in
        subst (λ g. member_threshold_of set g ≡ Some (length (names_in_group g names))) here
        (All-filter (λ name. name.0 == group) (λ name. member_threshold_of set name.0 ≡ Some (length (names_in_group name.0 names))) names
        quorum.exact.just.members 0 (0, 0) some)

    -- at most as many as a group has
    pub few_members : length (names_in_group group names) ≤ most_members
    few_members = elim (cases_lt 0 (length (names_in_group group names))) [
      | inl some ↦ (member_threshold-positive set group (length (names_in_group group names)) quorum.is_set (member_threshold_is some)).1
      | inr none ↦ omega arith
    ]

    -- those of the names before one of the group's are fewer
    pub room_for_member : (index : ℕ) → index < length names → (get_or names index (0, 0)).0 ≡ group
        → length (member_shares set (take index names) group) < most_members
    room_for_member index within here =
        let count : length (names_in_group group (take (index + 1) names)) ≡ length (names_in_group group (take index names)) + 1 =
        length-filter (λ name. name.0 == group) (take (index + 1) names)
        ∙ count_by_more_yes (λ name. name.0 == group) names index (0, 0) within (eq-eqb (get_or names index (0, 0)).0 group here)
        ∙ ap (λ n. n + 1) (sym (length-filter (λ name. name.0 == group) (take index names))) in
        omega (
          arith,
          few_members,
          length-member_shares set (take index names) group,
          length-filter (λ name. name.0 == group) names,
          length-filter (λ name. name.0 == group) (take (index + 1) names),
          sum_by-take-le (λ name. cond (name.0 == group) 1 0) names (index + 1),
        )

    -- a group's shares can be combined
    pub members_of_one_level : 0 < length (names_in_group group names) → AreOfOneLevel (value_bytes_of set) (member_shares set names group)
    members_of_one_level some = record {
      some = omega (arith, length-member_shares set names group);
      few = omega (arith, length-member_shares set names group, few_members);
      distinct = AllPairs-map (λ a b. a.0 ≢ b.0) (λ name. (name.1, value_of set name)) (names_in_group group names)
          (λ i j d before within.
          same_group (get_or (names_in_group group names) i d) (get_or (names_in_group group names) j d) group
          (in_group i d (omega arith)) (in_group j d within)
          (AllPairs-filter (λ a b. name_cmp a b ≡ Less) (λ name. name.0 == group) names quorum.exact.at_hand.ascending i j d before within));
      indices = All-map (λ share. share.0 < most_shares) (λ name. (name.1, value_of set name)) (names_in_group group names)
          (λ k d within.
          let name = get_or (names_in_group group names) k d in
          All-contains (λ n. n.1 < most_members) (map name_of set) name
          (All-map (λ n. n.1 < most_members) name_of set (λ i e below. (quorum.is_set.each i e below).member_index)) (group_at_hand k d within));
      lengths = All-map (λ share. length share.1 ≡ value_bytes_of set) (λ name. (name.1, value_of set name)) (names_in_group group names)
          (λ k d within. length-value_of set (get_or (names_in_group group names) k d) quorum.is_set (group_at_hand k d within));
      long =
          let name = get_or (names_in_group group names) 0 (0, 0) in
          let has = has_share set name (group_at_hand 0 (0, 0) some) in
          value_bytes-long set has.share quorum.is_set has.among;
    }

    member_bytes : All (λ share. AreBytes share.1) (member_shares set names group)
    member_bytes =
        All-map (λ share. AreBytes share.1) (λ name. (name.1, value_of set name)) (names_in_group group names)
        (λ k d within. bytes-value_of set (get_or (names_in_group group names) k d) quorum.is_set (group_at_hand k d within))

    -- they combine to what is computed alone
    pub members_combine : 0 < length (names_in_group group names) → (outcome : Option (List ℕ))
        → IsSomeAnd (member_threshold_of set group) (λ threshold. Combines threshold (member_shares set names group) outcome
        ↔ (outcome ≡ combined (member_shares set names group)))
    members_combine some outcome =
        let shares = member_shares set names group in
        subst (λ o. IsSomeAnd o (λ t. Combines t shares outcome ↔ (outcome ≡ combined shares))) (sym (member_threshold_is some))
        (combined_is (value_bytes_of set) shares (members_of_one_level some) member_bytes (length (names_in_group group names))
        (length-member_shares set names group) outcome)

    -- the share of a group is like them
    share_like_members : (share : ℕ × List ℕ) → 0 < length (names_in_group group names) → group_share set names group ≡ Ok share
        → IsLike (value_bytes_of set) share.1
    share_like_members share some is =
        combined_like (value_bytes_of set) (member_shares set names group) (members_of_one_level some) member_bytes share.1
        (share_is group (combined (member_shares set names group)) share is).1

  -- ---- the groups

  complete_here : (group : ℕ) → is_complete (member_threshold_of set) names group ≡ nat_lt 0 (length (names_in_group group names))
  complete_here group = elim (cases_lt 0 (length (names_in_group group names))) [
    | inl some ↦
        ap (λ o. option_map_or (λ threshold. nat_le threshold (length (names_in_group group names))) o false) (member_threshold_is group some)
        ∙ le-leb (length (names_in_group group names)) (length (names_in_group group names)) (omega arith)
        ∙ sym (lt-ltb 0 (length (names_in_group group names)) some)
    | inr none ↦ by (member_threshold_of set group) refl none ∙ sym (le-ltb 0 (length (names_in_group group names)) none)
  ]
    where
      by : (o : Option ℕ) → member_threshold_of set group ≡ o → length (names_in_group group names) ≤ 0
          → option_map_or (λ threshold. nat_le threshold (length (names_in_group group names))) o false ≡ false
      by None e none = refl
      by (Some t) e none =
          let positive = (member_threshold-positive set group t quorum.is_set e).0 in
          lt-leb t (length (names_in_group group names)) (omega arith)

  -- just as many groups have names as the group threshold asks
  pub group_threshold_is : group_threshold_of set ≡ Some (length (groups_of names))
  group_threshold_is =
      quorum.exact.just.groups
      ∙ ap (λ groups. Some (length groups))
      (filter_alike (is_complete (member_threshold_of set) names) (λ group. nat_lt 0 (length (names_in_group group names)))
      (range_with_len 0 most_groups) (λ k d within. complete_here (get_or (range_with_len 0 most_groups) k d)))

  -- the values have an even length
  pub value_bytes-even : value_bytes_of set % 2 ≡ 0
  value_bytes-even =
      let (share, among) = some_share set (length (groups_of names)) group_threshold_is in
      ap (λ n. n % 2) (sym (All-contains (λ s. length s.value.items ≡ value_bytes_of set) set share (values_agree set quorum.is_set) among))
      ∙ (All-contains IsShare set share quorum.is_set.each among).value.count.0

  -- there is a group
  pub some_group : 0 < length (groups_of names)
  some_group = group_threshold-positive set (length (groups_of names)) quorum.is_set group_threshold_is

  -- each group has a name
  pub have_names : All (λ group. 0 < length (names_in_group group names)) (groups_of names)
  have_names k d within = ltb-true 0 _ (filter_passes (has_name_in names) (range_with_len 0 most_groups) k d within)

  -- ---- the shares of the groups

  -- one for each group below a number that has names
  pub few_group_shares : (group : ℕ) (shares : List (ℕ × List ℕ)) → each (group_share set names) (groups_below names group) ≡ Ok shares
      → length shares ≤ group
  few_group_shares group shares all =
      omega (
        arith,
        each-length (group_share set names) (groups_below names group) shares all,
        length-filter (has_name_in names) (range_with_len 0 group),
        count_by-le-length (has_name_in names) (range_with_len 0 group),
        length-range_with_len 0 group,
      )

  module _ (shares : List (ℕ × List ℕ)) (all : each (group_share set names) (groups_of names) ≡ Ok shares) where
    alike : All (λ share. IsLike (value_bytes_of set) share.1) shares
    alike = each-values (group_share set names) (λ group. 0 < length (names_in_group group names)) (λ share. IsLike (value_bytes_of set) share.1)
        (λ group share some is. share_like_members group share some is) (groups_of names) shares have_names all

    indices_are : map (λ share. share.0) shares ≡ groups_of names
    indices_are =
        each-images (group_share set names) (λ share. share.0) (λ group. group)
        (λ group share is. (share_is group (combined (member_shares set names group)) share is).0) (groups_of names) shares all
        ∙ map_fixed (λ group. group) (groups_of names) (λ k d within. refl)

    -- they can be combined
    pub groups_of_one_level : AreOfOneLevel (value_bytes_of set) shares
    groups_of_one_level = record {
      some = omega (arith, each-length (group_share set names) (groups_of names) shares all, some_group);
      few = few_group_shares most_groups shares all;
      distinct = AllPairs-from_map (λ a b. a ≢ b) (λ share. share.0) shares
          (subst (AllPairs (λ a b. a ≢ b)) (sym indices_are)
          (AllPairs-filter (λ a b. a ≢ b) (has_name_in names) (range_with_len 0 most_groups) (range-distinct most_groups)));
      indices = All-from_map (λ group. group < most_groups) (λ share. share.0) shares
          (subst (All (λ group. group < most_groups)) (sym indices_are)
          (All-filter (has_name_in names) (λ group. group < most_groups) (range_with_len 0 most_groups) (range-below most_groups)));
      lengths = λ k d within. (alike k d within).0;
      long =
          let (share, among) = some_share set (length (groups_of names)) group_threshold_is in
          value_bytes-long set share quorum.is_set among;
    }

    group_bytes : All (λ share. AreBytes share.1) shares
    group_bytes k d within = (alike k d within).1

    -- to what is computed alone
    pub groups_combine : (outcome : Option (List ℕ))
        → IsSomeAnd (group_threshold_of set) (λ threshold. Combines threshold shares outcome ↔ (outcome ≡ combined shares))
    groups_combine outcome =
        subst (λ o. IsSomeAnd o (λ t. Combines t shares outcome ↔ (outcome ≡ combined shares))) (sym group_threshold_is)
        (combined_is (value_bytes_of set) shares groups_of_one_level group_bytes (length (groups_of names))
        (each-length (group_share set names) (groups_of names) shares all) outcome)

  -- the encrypted secret is like the values
  pub encrypted_like : (encrypted : List ℕ) → combination_of set names ≡ Ok encrypted → IsLike (value_bytes_of set) encrypted
  unfolding combination_of
  encrypted_like encrypted is =
      let gives = then_gives (λ shares. ok_or (combined shares) OfGroups) (each (group_share set names) (groups_of names)) encrypted is in
      combined_like (value_bytes_of set) gives.a (groups_of_one_level gives.a gives.first_is) (group_bytes gives.a gives.first_is) encrypted
      (from_ok_or (combined gives.a) OfGroups encrypted gives.then_is)

  -- one group more
  module _ (group : ℕ) (shares : List (ℕ × List ℕ)) (before : each (group_share set names) (groups_below names group) ≡ Ok shares) where
    pub with_group : (share : ℕ × List ℕ) → 0 < length (names_in_group group names) → group_share set names group ≡ Ok share
        → each (group_share set names) (groups_below names (group + 1)) ≡ Ok (shares ++ share ∷ [])
    with_group share some is =
        ap (each (group_share set names)) (filter-range_more_yes (has_name_in names) group (lt-ltb 0 (length (names_in_group group names)) some))
        ∙ each-push (group_share set names) (groups_below names group) group shares share before is

    pub without_group : length (names_in_group group names) ≤ 0 → each (group_share set names) (groups_below names (group + 1)) ≡ Ok shares
    without_group none =
        ap (each (group_share set names)) (filter-range_more_no (has_name_in names) group (le-ltb 0 (length (names_in_group group names)) none)) ∙ before

    pub stops_at_group : (mismatch : Mismatch) → group < most_groups → 0 < length (names_in_group group names)
        → group_share set names group ≡ Err mismatch → each (group_share set names) (groups_of names) ≡ Err mismatch
    stops_at_group mismatch low some is =
        ap (each (group_share set names))
        (filter-range_parts (has_name_in names) group most_groups low (lt-ltb 0 (length (names_in_group group names)) some))
        ∙ each-stop (group_share set names) (groups_below names group) group
        (filter (has_name_in names) (range_with_len (group + 1) (most_groups - (group + 1)))) shares mismatch before is
