-- The quorums of a share set.
use Rattle.std.proofs.Common.{◌≡◌, ℕ, ◌<◌, ◌≤◌, Bool, List, length, find, map, All, Contains, Option, Some, None, [], ◌∷◌, ◌⊎◌, inl, inr}
use Rattle.std.proofs.Common.{refl, sym, ap, subst, ◌∙◌, arith, get_or}
use Rattle.std.specs.Prelude.{IsSomeAnd}
use Rattle.std.specs.Option.{option_map}
use Rattle.std.proofs.lemmas.Bool.{cases_lt}
use Rattle.std.proofs.lemmas.List.Elements.{All-nil, All-map, All-weaker, All-contains}
use Rattle.s39_words.specs.declared.share.ShareFields.{ShareFields}
use Rattle.s39_words.specs.Share.{IsShare}
use Rattle.s39_set.specs.Names.{Names, IsAscending, most_groups, most_members}
use Rattle.s39_set.specs.Groups.{is_complete, complete_groups, first_members}
use Rattle.s39_set.specs.ShareSet.{IsShareSet, name_of, is_in_group}
use Rattle.s39_set.specs.Quorums.{group_threshold_of, member_threshold_of, MeetsThresholds, IsQuorum, IsFirstQuorumAfter, HasJustTheGroups}
use Rattle.s39_set.specs.Written.{quorum_text, IsWrittenForm}
use Rattle.s39_set.specs.Lack.{IsLack, IsIncomplete}
use Rattle.s39_set.specs.declared.set_lack.SetLack.{SetLack}
use Rattle.s39_set.specs.declared.set_lack.SetLack.TheVariants.{NoShares, Incomplete}
use Rattle.s39_lists.proofs.Finds.{Contains-find}
use Rattle.s39_lists.proofs.Sublists.{length-sublist, one_of, Contains-head, Contains-nil}
use Rattle.s39_lists.proofs.Pairs.{AllPairs-nil}
use Rattle.s39_set.proofs.Ascending.{Precedes, names-sublist, same_names_from_length}
use Rattle.s39_set.proofs.Thresholds.{HasJust}
use Rattle.s39_set.proofs.CompleteGroups.{complete_groups-sublist}
use Rattle.s39_set.proofs.ExactNames.{all_needed, one_complete}
use Rattle.s39_set.proofs.Completion.{names_taken, groups_there, taken_just, taken_least}

-- what just meets the set's thresholds just meets them as plain numbers
pub just_from_set : (set : List ShareFields) (names : Names) (required : ℕ) → group_threshold_of set ≡ Some required → HasJustTheGroups set names
    → HasJust (member_threshold_of set) (map name_of set) required names
just_from_set set names required e has = record {
  ascending = has.at_hand.ascending;
  at_hand = has.at_hand.at_hand;
  groups = let same : Some required ≡ Some (length (complete_groups (member_threshold_of set) names)) = sym e ∙ has.just.groups in cc;
  members = has.just.members;
}

-- and the other way round
pub set_from_just : (set : List ShareFields) (names : Names) (required : ℕ) → group_threshold_of set ≡ Some required
    → HasJust (member_threshold_of set) (map name_of set) required names → HasJustTheGroups set names
set_from_just set names required e just = record {
  at_hand = record { ascending = just.ascending; at_hand = just.at_hand };
  just = record { groups = e ∙ ap Some just.groups; members = just.members };
}

-- where names meet thresholds there is a group threshold
pub group_threshold-from_meets : (set : List ShareFields) (names : Names) → MeetsThresholds set names
    → (required : ℕ) × (group_threshold_of set ≡ Some required)
group_threshold-from_meets set names meets = by (group_threshold_of set) refl meets.groups
  where
    by : (o : Option ℕ) → group_threshold_of set ≡ o → IsSomeAnd o (λ threshold. threshold ≤ length (complete_groups (member_threshold_of set) names))
        → (required : ℕ) × (group_threshold_of set ≡ Some required)
    by None e h = absurd h
    by (Some required) e h = (required, e)

-- a set with names that meet its thresholds has no lack
pub no_lack-from_meets : (set : List ShareFields) (names : Names) → MeetsThresholds set names → (lack : SetLack) → ¬ IsLack set lack
no_lack-from_meets set names meets NoShares none =
    let (required, e) = group_threshold-from_meets set names meets in
    let missing : None ≡ Some required = sym (ap group_threshold_of none) ∙ e in
    cc
no_lack-from_meets set names meets (Incomplete complete required) lack = lack.none_meet names meets

module _ (set : List ShareFields) (is : IsShareSet set) where
  -- a set's member thresholds are positive
  pub member_threshold-positive : (g t : ℕ) → member_threshold_of set g ≡ Some t → 1 ≤ t
  member_threshold-positive g t e = by (find (is_in_group g) set) refl e
    where
      by : (found : Option ShareFields) → find (is_in_group g) set ≡ found → option_map (λ share. share.member_threshold) found ≡ Some t → 1 ≤ t
      by None here h = absurd (let none : None ≡ Some t = h in cc)
      by (Some share) here h =
          let valid : IsShare share = All-contains IsShare set share is.each (Contains-find (is_in_group g) set share here) in
          let same : Some share.member_threshold ≡ Some t = h in
          let threshold : share.member_threshold ≡ t = cc in
          let some : 1 ≤ share.member_threshold = valid.member_threshold in
          omega arith

  -- and so is its group threshold
  pub group_threshold-positive : (required : ℕ) → group_threshold_of set ≡ Some required → 1 ≤ required
  group_threshold-positive required e = by set refl e
    where
      by : (shares : List ShareFields) → set ≡ shares → group_threshold_of shares ≡ Some required → 1 ≤ required
      by [] same h = absurd (let none : None ≡ Some required = h in cc)
      by (share ∷ shares) same h =
          let valid : IsShare share = All-contains IsShare set share is.each (subst (λ ss. Contains ss share) (sym same) (Contains-head share shares)) in
          let both : Some share.group_threshold ≡ Some required = h in
          let threshold : share.group_threshold ≡ required = cc in
          let some : 1 ≤ share.group_threshold = valid.group_threshold in
          omega arith

  -- no threshold is above most_members
  pub member_threshold-most : (g t : ℕ) → member_threshold_of set g ≡ Some t → t ≤ most_members
  member_threshold-most g t e = by (find (is_in_group g) set) refl e
    where
      by : (found : Option ShareFields) → find (is_in_group g) set ≡ found → option_map (λ share. share.member_threshold) found ≡ Some t → t ≤ most_members
      by None here h = absurd (let none : None ≡ Some t = h in cc)
      by (Some share) here h =
          let valid : IsShare share = All-contains IsShare set share is.each (Contains-find (is_in_group g) set share here) in
          let same : Some share.member_threshold ≡ Some t = h in
          let threshold : share.member_threshold ≡ t = cc in
          let few : share.member_threshold ≤ most_members = valid.member_threshold_in_range in
          omega arith

  -- and the group threshold is not above most_groups
  pub group_threshold-most : (required : ℕ) → group_threshold_of set ≡ Some required → required ≤ most_groups
  group_threshold-most required e = by set refl e
    where
      by : (shares : List ShareFields) → set ≡ shares → group_threshold_of shares ≡ Some required → required ≤ most_groups
      by [] same h = absurd (let none : None ≡ Some required = h in cc)
      by (share ∷ shares) same h =
          let valid : IsShare share = All-contains IsShare set share is.each (subst (λ ss. Contains ss share) (sym same) (Contains-head share shares)) in
          let both : Some share.group_threshold ≡ Some required = h in
          let threshold : share.group_threshold ≡ required = cc in
          let count : share.group_threshold ≤ share.group_count = valid.threshold_in_count in
          let few : share.group_count ≤ most_groups = valid.group_count in
          omega arith

  -- its groups are below most_groups
  pub groups-below : All (λ name. name.0 < most_groups) (map name_of set)
  groups-below =
      All-map (λ name. name.0 < most_groups) name_of set
      (All-weaker IsShare (λ share. share.group_index < most_groups) (λ share valid. valid.group_index) set is.each)

  -- and its members
  pub members-below : All (λ name. name.1 < most_members) (map name_of set)
  members-below =
      All-map (λ name. name.1 < most_members) name_of set
      (All-weaker IsShare (λ share. share.member_index < most_members) (λ share valid. valid.member_index) set is.each)

  module _ (required : ℕ) (e : group_threshold_of set ≡ Some required) where
    abbrev T : ℕ → Option ℕ
    T = member_threshold_of set

    abbrev N : Names
    N = map name_of set

    -- names at hand that complete enough groups meet the thresholds
    meets_from : (names : Names) → IsAscending names → All (Contains N) names → required ≤ length (complete_groups T names) → MeetsThresholds set names
    meets_from names ascending at_hand enough = record {
      at_hand = record { ascending = ascending; at_hand = at_hand };
      groups = subst (λ o. IsSomeAnd o (λ threshold. threshold ≤ length (complete_groups T names))) (sym e) enough;
    }

    -- and all that meet them do
    enough_from : (names : Names) → MeetsThresholds set names → required ≤ length (complete_groups T names)
    enough_from names meets = subst (λ o. IsSomeAnd o (λ threshold. threshold ≤ length (complete_groups T names))) e meets.groups

    -- a quorum has just the groups and members that the thresholds ask
    pub just_of : (names : Names) → IsQuorum set names → HasJust T N required names
    just_of names quorum =
        let own = quorum.meets.at_hand in
        let fewer = names_taken T names member_threshold-positive own.ascending (first_members T names) (is_complete T names) (λ g _. refl)
        (λ g _. refl) 0 required in
        let just : HasJust T names required fewer =
        taken_just T names member_threshold-positive own.ascending (first_members T names) (is_complete T names) (λ g _. refl) (λ g _. refl) 0 required
        (enough_from names quorum.meets) in
        let at_hand : All (Contains N) fewer = λ k d below. All-contains (Contains N) names (get_or fewer k d) own.at_hand (just.at_hand k d below) in
        let same : fewer ≡ names =
        elim (cases_lt (length fewer) (length names)) [
          | inl less ↦ absurd
              (quorum.minimal fewer (just.at_hand, λ whole. let lengths : length fewer ≡ length names = ap length whole in absurd (omega arith))
              (meets_from fewer just.ascending at_hand (let groups = just.groups in omega arith)))
          | inr long ↦ sym (same_names_from_length names fewer own.ascending just.ascending just.at_hand long)
        ] in
        let whole : HasJust T names required names = subst (HasJust T names required) same just in
        record { ascending = own.ascending; at_hand = own.at_hand; groups = whole.groups; members = whole.members }

    -- and names at hand that have are a quorum
    pub of_just : (names : Names) → HasJust T N required names → IsQuorum set names
    of_just names just = record {
      meets = meets_from names just.ascending just.at_hand (let groups = just.groups in omega arith);
      minimal = λ fewer proper meets.
          proper.1 (all_needed groups-below just fewer meets.at_hand.ascending proper.0 (enough_from fewer meets));
    }

    -- where enough groups are complete, the first members of the first of them are the least quorum
    pub first_is : (M : ℕ → Names) (C : ℕ → Bool) (M_is : (g : ℕ) → g < most_groups → M g ≡ first_members T N g)
        (C_is : (g : ℕ) → g < most_groups → C g ≡ is_complete T N g)
        → required ≤ length (groups_there T N member_threshold-positive is.ascending M C M_is C_is 0)
        → IsFirstQuorumAfter set None (names_taken T N member_threshold-positive is.ascending M C M_is C_is 0 required)
    first_is M C M_is C_is enough =
        let names = names_taken T N member_threshold-positive is.ascending M C M_is C_is 0 required in
        let just = taken_just T N member_threshold-positive is.ascending M C M_is C_is 0 required enough in
        record {
          quorum = of_just names just;
          after = tt;
          least = λ other quorum _.
              taken_least T N member_threshold-positive is.ascending M C M_is C_is required groups-below [] [] other 0 0 required (AllPairs-nil Precedes)
              (All-nil (λ m. m.0 < 0)) just (just_of other quorum) (λ m none. absurd (Contains-nil m none)) (λ y _. inr (omega arith));
        }

    -- where too few groups are complete, that is what the set lacks
    pub incomplete_from_fewer : length (complete_groups T N) < required → IsIncomplete set (length (complete_groups T N)) required
    incomplete_from_fewer few = record {
      complete_is = refl;
      required_is = e;
      none_meet = λ names meets.
          let enough = enough_from names meets in
          let part = names-sublist N names is.ascending meets.at_hand.ascending meets.at_hand.at_hand in
          absurd (omega (arith, length-sublist (complete_groups-sublist T part)));
    }

  pub just_from_quorum : (names : Names) → IsQuorum set names → HasJustTheGroups set names
  just_from_quorum names quorum =
      let (required, e) = group_threshold-from_meets set names quorum.meets in
      set_from_just set names required e (just_of required e names quorum)

  pub quorum_from_just : (names : Names) → HasJustTheGroups set names → IsQuorum set names
  quorum_from_just names has =
      let required = length (complete_groups (member_threshold_of set) names) in
      of_just required has.just.groups names (just_from_set set names required has.just.groups has)

-- a set has a first quorum or a lack
pub first_or_lack : (set : List ShareFields) → IsShareSet set
    → ((names : Names) × IsFirstQuorumAfter set None names) ⊎ ((lack : SetLack) × IsLack set lack)
first_or_lack [] is = inr (NoShares, refl)
first_or_lack (share ∷ shares) is =
    let set = share ∷ shares in
    let required = share.group_threshold in
    let complete = length (complete_groups (member_threshold_of set) (map name_of set)) in
    elim (cases_lt complete required) [
      | inl few ↦ inr (Incomplete complete required, incomplete_from_fewer set is required refl few)
      | inr enough ↦
          (let T = member_threshold_of set in
          let N = map name_of set in
          inl (
            names_taken T N (member_threshold-positive set is) is.ascending (first_members T N) (is_complete T N) (λ g _. refl) (λ g _. refl) 0 required,
            first_is set is required refl (first_members T N) (is_complete T N) (λ g _. refl) (λ g _. refl) enough,
          ))
    ]

-- the names of a quorum are names in order, and there are some
pub written_of_quorum : (set : List ShareFields) → IsShareSet set → (names : Names) → IsQuorum set names → IsWrittenForm (quorum_text names) names
written_of_quorum set is names quorum = record {
  some = λ none.
      let (required, e) = group_threshold-from_meets set names quorum.meets in
      let some = group_threshold-positive set is required e in
      let groups = complete_groups (member_threshold_of set) names in
      let (g, among) = one_of groups (let enough = enough_from set is required e names quorum.meets in omega arith) in
      let (n, inside, _) = one_complete (member_threshold_of set) (member_threshold-positive set is) names g among in
      Contains-nil n (subst (λ ns. Contains ns n) none inside);
  are_names = record {
    ascending = quorum.meets.at_hand.ascending;
    groups = λ k d below. All-contains (λ name. name.0 < most_groups) (map name_of set) (get_or names k d) (groups-below set is)
        (quorum.meets.at_hand.at_hand k d below);
    members = λ k d below. All-contains (λ name. name.1 < most_members) (map name_of set) (get_or names k d) (members-below set is)
        (quorum.meets.at_hand.at_hand k d below);
  };
  text_is = refl;
}
