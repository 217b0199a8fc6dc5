-- Each quorum of a created backup's shares recovers its secret.
use Rattle.std.proofs.Common.{◌≡◌, ℕ, zero, suc, ◌+◌, ◌<◌, List, [], ◌∷◌, length, get_or, find, map, All, Contains, Option, Some, None, inl}
use Rattle.std.proofs.Common.{inr, refl, sym, ap, subst, ◌∙◌, arith}
use Rattle.std.specs.Prelude.{◌==◌, Ok}
use Rattle.std.specs.List.{enumerate_from, slice_get}
use Rattle.std.specs.Option.{option_map, option_map_or, ok_or}
use Rattle.std.proofs.lemmas.List.{length-map}
use Rattle.std.proofs.lemmas.List.Elements.{All-contains, All-map, Contains-append_cases}
use Rattle.std.proofs.lemmas.Bool.{and_parts, eqb-true}
use Rattle.s39_kdf.specs.declared.params.Params.{Params}
use Rattle.s39_split.specs.Sharing.{IsSplit}
use Rattle.s39_split.specs.Recovery.{combined, AnySharesCombine}
use Rattle.s39_split.proofs.OneOutcome.{combine_once}
use Rattle.s39_lists.specs.Each.{and_then, each}
use Rattle.s39_lists.proofs.Each.{each-map}
use Rattle.s39_words.specs.declared.share.ShareFields.{ShareFields}
use Rattle.s39_set.specs.Names.{Name, Names, names_in_group}
use Rattle.s39_set.specs.ShareSet.{name_of, is_in_group, has_name}
use Rattle.s39_set.specs.Quorums.{group_threshold_of, member_threshold_of}
use Rattle.s39_lists.proofs.Finds.{find-passes, Contains-find, some_same}
use Rattle.s39_backup.specs.declared.plan.Members.{Members}
use Rattle.s39_backup.specs.Created.{AreSplitAmong, created_share, created_group, created_groups, IsCreatedFrom, AreOfBackup, asked_for}
use Rattle.s39_backup.specs.declared.combination.Mismatch.TheVariants.{OfGroups}
use Rattle.s39_backup.specs.Combination.{value_of, member_shares, groups_of, share_or_mismatch, group_share, combination_of}
use Rattle.s39_backup.specs.Outcome.{AreParams, Recovers}
use Rattle.s39_backup.specs.GroupShares.{IsExactQuorum}
use Rattle.s39_backup.proofs.Values.{has_share}
use Rattle.s39_backup.proofs.Levels.{in_group, group_at_hand, length-member_shares, members_of_one_level, member_threshold_is, group_threshold_is}
use Rattle.s39_backup.proofs.Levels.{have_names, groups_of_one_level}

-- ---- the created shares

module _ (params : Params) (group_threshold group_count : ℕ) where
  -- this is the share of a member of a group: the group at this place has these members and values
  pub record IsCreatedShare (groups : List Members) (values : List (List (List ℕ))) (start : ℕ) (share : ShareFields) : Type 0 where
    pub place : ℕ
    pub members : Members
    pub others : List (List ℕ)
    pub member : ℕ
    pub value : List ℕ
    pub group_is : slice_get groups place ≡ Some members
    pub values_are : slice_get values place ≡ Some others
    pub value_is : slice_get others member ≡ Some value
    pub share_is : share ≡ created_share params group_threshold group_count (start + place) members member value

  -- a share of a group's members
  in_created_group : (group : ℕ) (members : Members) (values : List (List ℕ)) (first : ℕ) (share : ShareFields)
      → Contains (map (λ s. created_share params group_threshold group_count group members s.0 s.1) (enumerate_from first values)) share
      → (member : ℕ) × (value : List ℕ) × (slice_get values member ≡ Some value)
      × (share ≡ created_share params group_threshold group_count group members (first + member) value)
  in_created_group group members [] first share (k, below, here) = absurd (omega arith)
  in_created_group group members (v ∷ vs) first share (zero, below, here) =
      let start : first ≡ first + 0 = omega arith in
      (0, v, refl, sym here ∙ ap (λ (m : ℕ). created_share params group_threshold group_count group members m v) start)
  in_created_group group members (v ∷ vs) first share (suc k, below, here) =
      let (member, value, at, is) = in_created_group group members vs (first + 1) share (k, omega arith, here) in
      let next : (first + 1) + member ≡ first + suc member = omega arith in
      (suc member, value, at, is ∙ ap (λ (m : ℕ). created_share params group_threshold group_count group members m value) next)

  -- a share of the groups
  pub in_created_groups : (groups : List Members) (values : List (List (List ℕ))) (start : ℕ) (share : ShareFields)
      → Contains (created_groups params group_threshold group_count start groups values) share → IsCreatedShare groups values start share
  in_created_groups [] values start share (k, below, here) = absurd (omega arith)
  in_created_groups (g ∷ gs) [] start share (k, below, here) = absurd (omega arith)
  in_created_groups (g ∷ gs) (v ∷ vs) start share among =
      elim (Contains-append_cases (created_group params group_threshold group_count start g v)
      (created_groups params group_threshold group_count (start + 1) gs vs) share among) [
        | inl first ↦
            let (member, value, at, is) = in_created_group start g v 0 share first in
            let here : start ≡ start + 0 = omega arith in
            let no_start : 0 + member ≡ member = omega arith in
            record {
              place = 0;
              members = g;
              others = v;
              member = member;
              value = value;
              group_is = refl;
              values_are = refl;
              value_is = at;
              share_is = is
                  ∙ ap (λ (m : ℕ). created_share params group_threshold group_count start g m value) no_start
                  ∙ ap (λ (n : ℕ). created_share params group_threshold group_count n g member value) here;
            }
        | inr later ↦
            let rest = in_created_groups gs vs (start + 1) share later in
            let next : (start + 1) + rest.place ≡ start + suc rest.place = omega arith in
            record {
              place = suc rest.place;
              members = rest.members;
              others = rest.others;
              member = rest.member;
              value = rest.value;
              group_is = rest.group_is;
              values_are = rest.values_are;
              value_is = rest.value_is;
              share_is = rest.share_is ∙ ap (λ (n : ℕ). created_share params group_threshold group_count n rest.members rest.member rest.value) next;
            }
      ]

-- ---- the splits of the groups

-- the split of the group at this place
pub record IsSplitAt (groups : List Members) (shares : List (List ℕ)) (place : ℕ) (members : Members) (values : List (List ℕ)) : Type 0 where
  pub share : List ℕ
  pub piece : List ℕ
  pub share_is : slice_get shares place ≡ Some share
  pub split : IsSplit members.threshold members.count share piece values

pub split_at_place : (groups : List Members) (shares pieces : List (List ℕ)) (values : List (List (List ℕ))) (place : ℕ) (members : Members)
    (others : List (List ℕ))
    → AreSplitAmong groups shares pieces values → slice_get groups place ≡ Some members → slice_get values place ≡ Some others
    → IsSplitAt groups shares place members others
split_at_place (g ∷ gs) (s ∷ ss) (p ∷ ps) (v ∷ vs) zero members others all group_is values_are =
    let same_group : g ≡ members = some_same g members group_is in
    let same_values : v ≡ others = some_same v others values_are in
    record {
      share = s;
      piece = p;
      share_is = refl;
      split = subst (λ (m : Members). IsSplit m.threshold m.count s p others) same_group
          (subst (λ vs. IsSplit g.threshold g.count s p vs) same_values all.0);
    }
split_at_place (g ∷ gs) (s ∷ ss) (p ∷ ps) (v ∷ vs) (suc k) members others all group_is values_are =
    let rest = split_at_place gs ss ps vs k members others all.1 group_is values_are in
    record { share = rest.share; piece = rest.piece; share_is = rest.share_is; split = rest.split }
split_at_place [] [] [] [] place members others all group_is values_are = absurd (let none : None ≡ Some members = group_is in cc)
split_at_place gs ss ps vs place members others all group_is values_are = absurd all

-- ---- the shares of a backup that are at hand

module _ (set : List ShareFields) (names : Names) (quorum : IsExactQuorum set names) (passphrase secret : List ℕ)
    (backup : AreOfBackup set passphrase secret) (any : AnySharesCombine) where
  abbrev created : IsCreatedFrom (asked_for secret passphrase backup.group_threshold backup.groups backup.options) backup.random backup.shares
  created = backup.created

  -- each is one of the created shares
  share_of : (share : ShareFields) → Contains set share
      → IsCreatedShare created.params backup.group_threshold (length backup.groups) backup.groups created.values 0 share
  share_of share among =
      in_created_groups created.params backup.group_threshold (length backup.groups) backup.groups created.values 0 share
      (subst (λ xs. Contains xs share) created.shares_are (All-contains (Contains backup.shares) set share backup.belong among))

  -- the group and the value of a name's share
  record IsNamed (group : ℕ) (name : Name) : Type 0 where
    members : Members
    others : List (List ℕ)
    group_is : slice_get backup.groups group ≡ Some members
    values_are : slice_get created.values group ≡ Some others
    value_is : slice_get others name.1 ≡ Some (value_of set name)

  named : (group : ℕ) (name : Name) → name.0 ≡ group → Contains (map name_of set) name → IsNamed group name
  named group name of_group at_hand =
      let has = has_share set name at_hand in
      let share = has.share in
      let is = share_of share has.among in
      let passes = and_parts (share.group_index == name.0) (share.member_index == name.1) (find-passes (has_name name.0 name.1) set share has.found) in
      let in_group : share.group_index ≡ name.0 = eqb-true share.group_index name.0 passes.0 in
      let in_member : share.member_index ≡ name.1 = eqb-true share.member_index name.1 passes.1 in
      let placed : share.group_index ≡ 0 + is.place = ap (λ s. s.group_index) is.share_is in
      let place : is.place ≡ group = omega arith in
      let member : is.member ≡ name.1 = sym (ap (λ s. s.member_index) is.share_is) ∙ in_member in
      let value : is.value ≡ value_of set name =
      sym (ap (λ s. s.value.items) is.share_is) ∙ sym (ap (λ found. option_map_or (λ s. s.value.items) found []) has.found) in
      record {
        members = is.members;
        others = is.others;
        group_is = subst (λ (p : ℕ). slice_get backup.groups p ≡ Some is.members) place is.group_is;
        values_are = subst (λ (p : ℕ). slice_get created.values p ≡ Some is.others) place is.values_are;
        value_is = subst (λ (m : ℕ). slice_get is.others m ≡ Some (value_of set name)) member (is.value_is ∙ ap (λ v. Some v) value);
      }

  -- the member threshold of a group at hand is that of the plan
  threshold_of_plan : (group threshold : ℕ) (members : Members) → slice_get backup.groups group ≡ Some members
      → member_threshold_of set group ≡ Some threshold → threshold ≡ members.threshold
  threshold_of_plan group threshold members group_is e = by (find (is_in_group group) set) refl e
    where
      by : (found : Option ShareFields) → find (is_in_group group) set ≡ found → option_map (λ share. share.member_threshold) found ≡ Some threshold
          → threshold ≡ members.threshold
      by None here h = absurd (let none : None ≡ Some threshold = h in cc)
      by (Some share) here h =
          let is = share_of share (Contains-find (is_in_group group) set share here) in
          let in_group : share.group_index ≡ group = eqb-true share.group_index group (find-passes (is_in_group group) set share here) in
          let placed : share.group_index ≡ 0 + is.place = ap (λ s. s.group_index) is.share_is in
          let place : is.place ≡ group = omega arith in
          let same : is.members ≡ members =
          some_same is.members members (sym is.group_is ∙ ap (slice_get backup.groups) place ∙ group_is) in
          sym (some_same share.member_threshold threshold h) ∙ ap (λ s. s.member_threshold) is.share_is ∙ ap (λ m. m.threshold) same

  -- the group share to which the shares of a group combine
  share_at : ℕ → List ℕ
  share_at group = option_map_or (λ share. share) (slice_get created.group_shares group) []

  combined_at : (group : ℕ) → 0 < length (names_in_group group names)
      → (slice_get created.group_shares group ≡ Some (share_at group)) × (group_share set names group ≡ Ok (group, share_at group))
  unfolding share_at
  combined_at group some =
      let ns = names_in_group group names in
      let chosen = member_shares set names group in
      let first = named group (get_or ns 0 (0, 0)) (in_group set names quorum group 0 (0, 0) some) (group_at_hand set names quorum group 0 (0, 0) some) in
      let at = split_at_place backup.groups created.group_shares created.pieces created.values group first.members first.others created.members_split
      first.group_is first.values_are in
      let level = members_of_one_level set names quorum group some in
      let belong : All (λ s. slice_get first.others s.0 ≡ Some s.1) chosen =
      All-map (λ s. slice_get first.others s.0 ≡ Some s.1) (λ name. (name.1, value_of set name)) ns
      (λ k d below.
      let one = named group (get_or ns k d) (in_group set names quorum group k d below) (group_at_hand set names quorum group k d below) in
      let same : one.others ≡ first.others = some_same one.others first.others (sym one.values_are ∙ first.values_are) in
      subst (λ vs. slice_get vs (get_or ns k d).1 ≡ Some (value_of set (get_or ns k d))) same one.value_is) in
      let threshold : member_threshold_of set group ≡ Some (length ns) = member_threshold_is set names quorum group some in
      let as_planned : length ns ≡ first.members.threshold = threshold_of_plan group (length ns) first.members first.group_is threshold in
      let combines = any first.members.threshold first.members.count at.share at.piece first.others chosen at.split
      (record { distinct = level.distinct; belong = belong })
      (length-member_shares set names group ∙ as_planned) in
      let is : Some at.share ≡ combined chosen = combine_once first.members.threshold chosen (Some at.share) level.some
      (λ k d within. let low = level.indices k d within in omega arith) level.distinct combines.0 in
      let share : share_at group ≡ at.share = ap (λ o. option_map_or (λ share. share) o []) at.share_is in
      rw share (at.share_is, ap (share_or_mismatch group) (sym is))

  -- the group threshold at hand is that of the plan
  group_threshold_of_plan : length (groups_of names) ≡ backup.group_threshold
  group_threshold_of_plan = by set refl (group_threshold_is set names quorum)
    where
      by : (xs : List ShareFields) → set ≡ xs → group_threshold_of xs ≡ Some (length (groups_of names)) → length (groups_of names) ≡ backup.group_threshold
      by [] here h = absurd (let none : None ≡ Some (length (groups_of names)) = h in cc)
      by (s ∷ ss) here h =
          let is = share_of s (subst (λ xs. Contains xs s) (sym here) (0, omega arith, refl)) in
          sym (some_same s.group_threshold (length (groups_of names)) h) ∙ ap (λ t. t.group_threshold) is.share_is

  -- the quorum combines to the encrypted secret
  pub combines_to_encrypted : combination_of set names ≡ Ok created.encrypted
  unfolding combination_of
  combines_to_encrypted =
      let groups = groups_of names in
      let with_share : ℕ → ℕ × List ℕ = λ group. (group, share_at group) in
      let chosen = map with_share groups in
      let at : All (λ group. (slice_get created.group_shares group ≡ Some (share_at group)) × (group_share set names group ≡ Ok (with_share group))) groups =
      λ k d within. combined_at (get_or groups k d) (have_names set names quorum k d within) in
      let all : each (group_share set names) groups ≡ Ok chosen =
      each-map (group_share set names) with_share groups (λ k d within. (at k d within).1) in
      let level = groups_of_one_level set names quorum chosen all in
      let belong : All (λ s. slice_get created.group_shares s.0 ≡ Some s.1) chosen =
      All-map (λ s. slice_get created.group_shares s.0 ≡ Some s.1) with_share groups (λ k d within. (at k d within).0) in
      let combines = any backup.group_threshold (length backup.groups) created.encrypted created.group_piece created.group_shares chosen
      created.groups_split
      (record { distinct = level.distinct; belong = belong }) (length-map groups with_share ∙ group_threshold_of_plan) in
      let is : Some created.encrypted ≡ combined chosen = combine_once backup.group_threshold chosen (Some created.encrypted) level.some
      (λ k d within. let low = level.indices k d within in omega arith) level.distinct combines.0 in
      ap (and_then (λ shares. ok_or (combined shares) OfGroups)) all ∙ ap (λ o. ok_or o OfGroups) (sym is)

  -- the parameters of the creation are those of the set
  pub params_are_created : AreParams set created.params
  params_are_created = by set refl (group_threshold_is set names quorum)
    where
      by : (xs : List ShareFields) → set ≡ xs → group_threshold_of xs ≡ Some (length (groups_of names)) → AreParams xs created.params
      by [] here h = absurd (let none : None ≡ Some (length (groups_of names)) = h in cc)
      by (s ∷ ss) here h =
          let is = share_of s (subst (λ xs. Contains xs s) (sym here) (0, omega arith, refl)) in
          (sym (ap (λ t. t.id) is.share_is), sym (ap (λ t. t.extendable) is.share_is), sym (ap (λ t. t.exponent) is.share_is))

  -- the quorum recovers the secret
  pub recovers_secret : Recovers set names passphrase secret
  recovers_secret = record {
    encrypted = created.encrypted;
    params = created.params;
    combined = combines_to_encrypted;
    params_are = params_are_created;
    secret_is = created.encryption;
  }
