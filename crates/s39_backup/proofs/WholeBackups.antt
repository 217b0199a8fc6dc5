-- All shares of a created backup meet its thresholds.
use Rattle.std.proofs.Common.{◌≡◌, ℕ, zero, suc, ◌+◌, ◌<◌, ◌≤◌, ◌==◌, false, List, [], ◌∷◌, length, get_or, find, map, All, Contains}
use Rattle.std.proofs.Common.{Option, Some, None, refl, sym, ap, ap₂, subst, ◌∙◌, arith}
use Rattle.std.specs.Prelude.{IsSomeAnd}
use Rattle.std.specs.List.{enumerate_from, range_with_len, slice_get}
use Rattle.std.specs.Option.{option_map}
use Rattle.std.proofs.lemmas.Bool.{eq-eqb, eqb-true, false≢true}
use Rattle.std.proofs.lemmas.List.{length-map}
use Rattle.std.proofs.lemmas.List.Elements.{All-contains, All-contains_itself, All-map, Contains-append_left, Contains-append_right}
use Rattle.std.proofs.lemmas.List.FromFn.{length-range_with_len}
use Rattle.std.proofs.lemmas.List.Kept.{AllPairs-filter}
use Rattle.std.proofs.lemmas.Option.{slice_get-get_or}
use Rattle.s39_kdf.specs.declared.params.Params.{Params}
use Rattle.s39_words.specs.declared.share.ShareFields.{ShareFields}
use Rattle.s39_set.specs.Names.{Name, Names, name_cmp, names_in_group, IsAscending}
use Rattle.s39_set.specs.Groups.{complete_groups}
use Rattle.s39_set.specs.ShareSet.{IsShareSet, name_of, is_in_group}
use Rattle.s39_set.specs.Quorums.{group_threshold_of, member_threshold_of, MeetsThresholds}
use Rattle.s39_lists.proofs.Sublists.{length-sublist, sublist_from_contains, Contains-filter, Contains-head, Contains-cons}
use Rattle.s39_set.proofs.Ascending.{names-sublist}
use Rattle.s39_set.proofs.Ascending.{member-less}
use Rattle.s39_lists.proofs.Images.{Contains-map}
use Rattle.s39_lists.proofs.Pairs.{AllPairs-map}
use Rattle.s39_set.proofs.CompleteGroups.{complete_groups-ascending, Contains-complete_groups}
use Rattle.s39_lists.proofs.Ranges.{range-ascending, range-below}
use Rattle.s39_lists.proofs.Finds.{find-passes, Contains-find, none-passes, some_same}
use Rattle.std.specs.declared.cmp.Ordering.TheVariants.{Less}
use Rattle.s39_backup.specs.declared.plan.Members.{Members}
use Rattle.s39_backup.specs.Plan.{IsGroup}
use Rattle.s39_backup.specs.Created.{AreSplitAmong, created_share, created_group, created_groups, IsCreatedFrom, AreOfBackup, asked_for}
use Rattle.s39_backup.proofs.Agreeing.{All-at}
use Rattle.s39_backup.proofs.Promise.{IsCreatedShare, in_created_groups}

-- ---- the created shares

module _ (params : Params) (group_threshold group_count : ℕ) where
  -- a group has the share of each of its members
  pub contains_member : (group : ℕ) (members : Members) (first : ℕ) (values : List (List ℕ)) (k : ℕ) (v : List ℕ) → slice_get values k ≡ Some v
      → Contains (map (λ s. created_share params group_threshold group_count group members s.0 s.1) (enumerate_from first values))
      (created_share params group_threshold group_count group members (first + k) v)
  contains_member group members first [] k v at = absurd (let none : None ≡ Some v = at in cc)
  contains_member group members first (x ∷ xs) zero v at =
      let here : x ≡ v = some_same x v at in
      let start : first ≡ first + 0 = omega arith in
      subst (Contains (map (λ s. created_share params group_threshold group_count group members s.0 s.1) (enumerate_from first (x ∷ xs))))
      (ap₂ (λ (m : ℕ) y. created_share params group_threshold group_count group members m y) start here)
      (Contains-head (created_share params group_threshold group_count group members first x)
      (map (λ s. created_share params group_threshold group_count group members s.0 s.1) (enumerate_from (first + 1) xs)))
  contains_member group members first (x ∷ xs) (suc k) v at =
      let next : (first + 1) + k ≡ first + suc k = omega arith in
      subst (λ (m : ℕ). Contains (map (λ s. created_share params group_threshold group_count group members s.0 s.1) (enumerate_from first (x ∷ xs)))
      (created_share params group_threshold group_count group members m v)) next
      (Contains-cons (created_share params group_threshold group_count group members first x)
      (map (λ s. created_share params group_threshold group_count group members s.0 s.1) (enumerate_from (first + 1) xs))
      (created_share params group_threshold group_count group members ((first + 1) + k) v)
      (contains_member group members (first + 1) xs k v at))

  abbrev share_of_member : ℕ → Members → ℕ → List ℕ → ShareFields
  share_of_member group members member value = created_share params group_threshold group_count group members member value

  -- each value of each group is that of a share
  pub contains_created : (start : ℕ) (groups : List Members) (values : List (List (List ℕ))) (place : ℕ) (members : Members) (others : List (List ℕ))
      (member : ℕ) (value : List ℕ) → slice_get groups place ≡ Some members → slice_get values place ≡ Some others → slice_get others member ≡ Some value
      → Contains (created_groups params group_threshold group_count start groups values) (share_of_member (start + place) members member value)
  contains_created start [] values place members others member value at among is = absurd (let none : None ≡ Some members = at in cc)
  contains_created start (g ∷ gs) [] place members others member value at among is = absurd (let none : None ≡ Some others = among in cc)
  contains_created start (g ∷ gs) (v ∷ vs) zero members others member value at among is =
      let same_group : g ≡ members = some_same g members at in
      let same_values : v ≡ others = some_same v others among in
      let first : start ≡ start + 0 = omega arith in
      let from_0 : 0 + member ≡ member = omega arith in
      let share = share_of_member start g (0 + member) value in
      let same : share ≡ share_of_member (start + 0) members member value =
      ap (λ (m : ℕ). share_of_member start g m value) from_0 ∙ ap (λ (n : ℕ). share_of_member n g member value) first
      ∙ ap (λ (x : Members). share_of_member (start + 0) x member value) same_group in
      subst (Contains (created_groups params group_threshold group_count start (g ∷ gs) (v ∷ vs))) same
      (Contains-append_left (created_group params group_threshold group_count start g v)
      (created_groups params group_threshold group_count (start + 1) gs vs) share
      (contains_member start g 0 v member value (subst (λ l. slice_get l member ≡ Some value) (sym same_values) is)))
  contains_created start (g ∷ gs) (v ∷ vs) (suc place) members others member value at among is =
      let next : (start + 1) + place ≡ start + suc place = omega arith in
      subst (λ (n : ℕ). Contains (created_groups params group_threshold group_count start (g ∷ gs) (v ∷ vs)) (share_of_member n members member value)) next
      (Contains-append_right (created_group params group_threshold group_count start g v)
      (created_groups params group_threshold group_count (start + 1) gs vs) (share_of_member ((start + 1) + place) members member value)
      (contains_created (start + 1) gs vs place members others member value at among is))

-- a group has as many values as members, and enough for its threshold
pub record HasValues (values : List (List (List ℕ))) (place : ℕ) (members : Members) : Type 0 where
  pub others : List (List ℕ)
  pub values_are : slice_get values place ≡ Some others
  pub number : length others ≡ members.count
  pub enough : members.threshold ≤ members.count

pub values_at : (groups : List Members) (shares pieces : List (List ℕ)) (values : List (List (List ℕ))) (place : ℕ) (members : Members)
    → AreSplitAmong groups shares pieces values → slice_get groups place ≡ Some members → HasValues values place members
values_at (g ∷ gs) (s ∷ ss) (p ∷ ps) (v ∷ vs) zero members all at =
    let same : g ≡ members = some_same g members at in
    record {
      others = v;
      values_are = refl;
      number = subst (λ (m : Members). length v ≡ m.count) same all.0.number;
      enough = subst (λ (m : Members). m.threshold ≤ m.count) same all.0.enough;
    }
values_at (g ∷ gs) (s ∷ ss) (p ∷ ps) (v ∷ vs) (suc k) members all at =
    let rest = values_at gs ss ps vs k members all.1 at in
    record { others = rest.others; values_are = rest.values_are; number = rest.number; enough = rest.enough }
values_at [] [] [] [] place members all at = absurd (let none : None ≡ Some members = at in cc)
values_at gs ss ps vs place members all at = absurd all

-- ---- a set with all of them

module _ (set : List ShareFields) (passphrase secret : List ℕ) (is_set : IsShareSet set) (backup : AreOfBackup set passphrase secret)
    (all : All (Contains set) backup.shares) where
  abbrev created : IsCreatedFrom (asked_for secret passphrase backup.group_threshold backup.groups backup.options) backup.random backup.shares
  created = backup.created

  abbrev names : Names
  names = map name_of set

  abbrev count : ℕ
  count = length backup.groups

  -- each is one of the created shares
  created_one : (share : ShareFields) → Contains set share
      → IsCreatedShare created.params backup.group_threshold count backup.groups created.values 0 share
  created_one share among =
      in_created_groups created.params backup.group_threshold count backup.groups created.values 0 share
      (subst (λ xs. Contains xs share) created.shares_are (All-contains (Contains backup.shares) set share backup.belong among))

  -- the set has a share of each member of each group
  record HasMember (group member : ℕ) : Type 0 where
    share : ShareFields
    among : Contains set share
    group_is : share.group_index ≡ group
    name_is : name_of share ≡ (group, member)

  has_member : (group : ℕ) (members : Members) (member : ℕ) → slice_get backup.groups group ≡ Some members → member < members.count → HasMember group member
  has_member group members member at below =
      let has = values_at backup.groups created.group_shares created.pieces created.values group members created.members_split at in
      let number = has.number in
      let value = get_or has.others member [] in
      let share = created_share created.params backup.group_threshold count (0 + group) members member value in
      let first : 0 + group ≡ group = omega arith in
      record {
        share = share;
        among = All-contains (Contains set) backup.shares share all
            (subst (λ xs. Contains xs share) (sym created.shares_are)
            (contains_created created.params backup.group_threshold count 0 backup.groups created.values group members has.others member value at
            has.values_are (slice_get-get_or has.others member [] (omega arith))));
        group_is = first;
        name_is = ap (λ (g : ℕ). (g, member)) first;
      }

  -- a group that has a share has its member threshold
  threshold_is : (group : ℕ) (members : Members) → slice_get backup.groups group ≡ Some members → HasMember group 0
      → member_threshold_of set group ≡ Some members.threshold
  threshold_is group members at has = by (find (is_in_group group) set) refl
    where
      by : (found : Option ShareFields) → find (is_in_group group) set ≡ found → member_threshold_of set group ≡ Some members.threshold
      by None here =
          absurd (false≢true (sym (All-contains (λ s. is_in_group group s ≡ false) set has.share (none-passes (is_in_group group) set here) has.among)
          ∙ eq-eqb has.share.group_index group has.group_is))
      by (Some share) here =
          let is = created_one share (Contains-find (is_in_group group) set share here) in
          let in_group : share.group_index ≡ group = eqb-true share.group_index group (find-passes (is_in_group group) set share here) in
          let placed : share.group_index ≡ 0 + is.place = ap (λ s. s.group_index) is.share_is in
          let place : is.place ≡ group = omega arith in
          let same : is.members ≡ members = some_same is.members members (sym is.group_is ∙ ap (slice_get backup.groups) place ∙ at) in
          ap (option_map (λ s. s.member_threshold)) here
          ∙ ap (λ (n : ℕ). Some n) (ap (λ s. s.member_threshold) is.share_is ∙ ap (λ (m : Members). m.threshold) same)

  -- all members of a group are there
  all_members : (group : ℕ) (members : Members) → slice_get backup.groups group ≡ Some members → members.count ≤ length (names_in_group group names)
  all_members group members at =
      let range = range_with_len 0 members.count in
      let wanted = map (λ (m : ℕ). (group, m)) range in
      let there : All (Contains (names_in_group group names)) wanted =
      All-map (Contains (names_in_group group names)) (λ (m : ℕ). (group, m)) range
      (λ k d within.
      let m = get_or range k d in
      let has = has_member group members m at (range-below members.count k d within) in
      Contains-filter (λ name. name.0 == group) names (group, m)
      (subst (Contains names) has.name_is (Contains-map name_of set has.share has.among)) (eq-eqb group group refl)) in
      let ascending : IsAscending wanted =
      AllPairs-map (λ a b. name_cmp a b ≡ Less) (λ (m : ℕ). (group, m)) range
      (λ i j d before within. member-less group (get_or range i d) (get_or range j d) (range-ascending members.count i j d before within)) in
      let part = names-sublist (names_in_group group names) wanted
      (AllPairs-filter (λ a b. name_cmp a b ≡ Less) (λ name. name.0 == group) names is_set.ascending) ascending there in
      omega (arith, length-sublist part, length-map {B = Name} range (λ (m : ℕ). (group, m)), length-range_with_len 0 members.count)

  -- so each group is complete
  abbrev complete : List ℕ
  complete = complete_groups (member_threshold_of set) names

  group_complete : (group : ℕ) → group < count → Contains complete group
  group_complete group below =
      let members = get_or backup.groups group (record { threshold = 0; count = 0 }) in
      let at : slice_get backup.groups group ≡ Some members = slice_get-get_or backup.groups group (record { threshold = 0; count = 0 }) below in
      let is_group : IsGroup members = All-at IsGroup backup.groups group members backup.is_plan.each at in
      let positive = is_group.positive in
      let enough = is_group.enough.enough in
      let few = backup.is_plan.enough.few in
      Contains-complete_groups (member_threshold_of set) names group members.threshold (omega arith)
      (threshold_is group members at (has_member group members 0 at (omega arith))) (omega (arith, all_members group members at))

  all_complete : count ≤ length complete
  all_complete =
      let part = sublist_from_contains (λ (a b : ℕ). a < b) (λ a b before after. omega arith) complete (range_with_len 0 count)
      (complete_groups-ascending (member_threshold_of set) names) (range-ascending count)
      (λ k d within. group_complete (get_or (range_with_len 0 count) k d) (range-below count k d within)) in
      omega (arith, length-sublist part, length-range_with_len 0 count)

  -- the group threshold is that of the plan
  group_threshold_is : group_threshold_of set ≡ Some backup.group_threshold
  group_threshold_is = by set refl
    where
      some : (group : ℕ) (members : Members) → slice_get backup.groups group ≡ Some members → (share : ShareFields) × Contains set share
      some group members at =
          let is_group : IsGroup members = All-at IsGroup backup.groups group members backup.is_plan.each at in
          let positive = is_group.positive in
          let enough = is_group.enough.enough in
          let has = has_member group members 0 at (omega arith) in
          (has.share, has.among)

      by : (xs : List ShareFields) → set ≡ xs → group_threshold_of xs ≡ Some backup.group_threshold
      by [] none =
          let positive = backup.is_plan.positive in
          let enough = backup.is_plan.enough.enough in
          let members = get_or backup.groups 0 (record { threshold = 0; count = 0 }) in
          let (share, among) = some 0 members (slice_get-get_or backup.groups 0 (record { threshold = 0; count = 0 }) (omega arith)) in
          let (k, below, here) = subst (λ xs. Contains xs share) none among in
          absurd (omega arith)
      by (s ∷ ss) here =
          let is = created_one s (subst (λ xs. Contains xs s) (sym here) (0, omega arith, refl)) in
          ap (λ (t : ShareFields). Some t.group_threshold) is.share_is

  pub whole_backup_meets : MeetsThresholds set names
  whole_backup_meets = record {
    at_hand = record { ascending = is_set.ascending; at_hand = All-contains_itself names };
    groups =
        let enough = backup.is_plan.enough.enough in
        let many = all_complete in
        subst (λ o. IsSomeAnd o (λ threshold. threshold ≤ length complete)) (sym group_threshold_is) (omega arith);
  }
