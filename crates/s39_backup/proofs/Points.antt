-- The points that determine a member that isn't at hand, and its value.
use Rattle.std.proofs.Common.{◌≡◌, ◌≢◌, ◌⊎◌, ℕ, ◌+◌, ◌<◌, ◌≤◌, ◌==◌, nat_le, false, List, [], ◌∷◌, length, take, All, Contains}
use Rattle.std.proofs.Common.{Some, Result, Ok, Err, inl, inr, refl, sym, ap, subst, ◌∙◌, arith}
use Rattle.std.specs.Prelude.{IsSomeAnd}
use Rattle.std.specs.List.{slice_get}
use Rattle.std.specs.Result.{result_map_both}
use Rattle.std.proofs.lemmas.Bool.{cases_eq, cases_lt, eq-eqb, ne_eqb, le-leb, lt-leb, and_left, and_right}
use Rattle.std.proofs.lemmas.List.{length-take-le}
use Rattle.std.proofs.lemmas.List.Elements.{All-cons, All-contains}
use Rattle.std.proofs.lemmas.Option.{slice_get_within}
use Rattle.s39_kdf.specs.Bytes.{AreBytes}
use Rattle.s39_kdf.specs.Limits.{IsSecretLength}
use Rattle.s39_lists.specs.Each.{and_then}
use Rattle.s39_lists.proofs.Each.{from_ok_or, then_gives}
use Rattle.s39_split.specs.Sharing.{secret_place}
use Rattle.s39_split.specs.Completion.{completed}
use Rattle.s39_words.specs.declared.share.ShareFields.{ShareFields}
use Rattle.s39_words.specs.Share.{IsShare}
use Rattle.s39_set.specs.Names.{Name, most_groups, most_members}
use Rattle.s39_set.specs.ShareSet.{IsShareSet}
use Rattle.s39_set.proofs.Sets.{agree}
use Rattle.s39_backup.specs.declared.plan.Members.{Members}
use Rattle.s39_backup.specs.declared.combination.Mismatch.{Mismatch}
use Rattle.s39_backup.specs.declared.combination.Mismatch.TheVariants.{InGroup}
use Rattle.s39_backup.specs.declared.reissue_error.ReissueError.{ReissueError}
use Rattle.s39_backup.specs.declared.reissue_error.ReissueError.TheVariants.{Undetermined, DigestMismatch}
use Rattle.s39_backup.specs.Plan.{IsPlan, IsGroup, IsNameOfPlan}
use Rattle.s39_backup.specs.GroupShares.{value_bytes_of}
use Rattle.s39_backup.specs.Reissue.{members_at_hand, least_members, other_groups, share_by_others, points_by_others, counts_for, first_of, share_like}
use Rattle.s39_backup.specs.Reissue.{is_one_short, points_for, value_at, missing_value}
use Rattle.s39_backup.specs.Reissuing.{ArePointsOfOneLevel, AreComplete}
use Rattle.s39_backup.proofs.Agreeing.{All-at}
use Rattle.s39_backup.proofs.Combining.{IsLike, level-points, completed_like}
use Rattle.s39_backup.proofs.Values.{values_agree}
use Rattle.s39_backup.proofs.MembersAtHand.{members-bytes, share_level}
use Rattle.s39_backup.proofs.OtherGroups.{others_complete, group_level, least_bytes, share_like_values}

-- a name of a plan
pub low_name : (group_threshold : ℕ) (groups : List Members) (group member : ℕ) (members : Members) → IsPlan group_threshold groups
    → slice_get groups group ≡ Some members → IsNameOfPlan groups (group, member)
    → (group < most_groups) × (member < most_members) × IsGroup members
low_name group_threshold groups group member members plan at named =
    let is_group : IsGroup members = All-at IsGroup groups group members plan.each at in
    let within = slice_get_within groups group members at in
    let few = plan.enough.few in
    let most = is_group.enough.few in
    let below : member < members.count = subst (λ o. IsSomeAnd o (λ m. member < m.count)) at named in
    (omega arith, omega arith, is_group)

-- shares of a set are alike but for name, member threshold and value
pub alike : (set : List ShareFields) → IsShareSet set → (s t : ShareFields) (name : Name) (threshold : ℕ) (value : List ℕ)
    → Contains set s → Contains set t → share_like s name threshold value ≡ share_like t name threshold value
alike set is_set s t name threshold value in_s in_t =
    let same = agree set is_set s t in_s in_t in
    let id = same.id in
    let extendable = same.extendable in
    let exponent = same.exponent in
    let group_threshold = same.group_threshold in
    let count = same.group_count in
    rw (id, extendable, exponent, group_threshold, count) refl

-- ---- which points they are

module _ (set : List ShareFields) (group_threshold : ℕ) (groups : List Members) (name : Name) (members : Members) where
  abbrev count : ℕ
  count = length (members_at_hand set name.0)

  abbrev others : List (ℕ × Members)
  others = other_groups set groups name.0

  -- the members of the group, its members and its share, or none
  pub record AreEnough : Type 0 where
    pub enough : members.threshold ≤ count
    pub points_are : points_for set group_threshold groups name members ≡ Ok (least_members set (name.0, members))

  pub record AreOneShort : Type 0 where
    pub one : count + 1 ≡ members.threshold
    pub enough : group_threshold ≤ length others
    pub points_are : points_for set group_threshold groups name members ≡ points_by_others set (take group_threshold others) name.0

  pub record AreTooFew : Type 0 where
    pub few : count < members.threshold
    pub lack : (count + 1 ≢ members.threshold) ⊎ (length others < group_threshold)
    pub points_are : points_for set group_threshold groups name members ≡ Err (Undetermined (counts_for set group_threshold groups name members))

  pub are_enough : members.threshold ≤ count → AreEnough
  are_enough enough = record { enough = enough; points_are = rw (le-leb members.threshold count enough) refl }

  pub are_one_short : count + 1 ≡ members.threshold → group_threshold ≤ length others → AreOneShort
  are_one_short one enough = record {
    one = one;
    enough = enough;
    points_are = rw (lt-leb members.threshold count (omega arith), eq-eqb (count + 1) members.threshold one, le-leb group_threshold (length others) enough)
        refl;
  }

  pub are_too_few : count < members.threshold → (count + 1 ≢ members.threshold) ⊎ (length others < group_threshold) → AreTooFew
  are_too_few few lack = record {
    few = few;
    lack = lack;
    points_are =
        let other : is_one_short set group_threshold groups name members ≡ false =
        elim lack [
          | inl apart ↦ and_left (count + 1 == members.threshold) (nat_le group_threshold (length others)) (ne_eqb (count + 1) members.threshold apart)
          | inr fewer ↦ and_right (count + 1 == members.threshold) (nat_le group_threshold (length others)) (lt-leb group_threshold (length others) fewer)
        ] in
        rw (lt-leb members.threshold count few, other) refl;
  }

  pub which_points : AreEnough ⊎ (AreOneShort ⊎ AreTooFew)
  which_points = elim (cases_lt count members.threshold) [
    | inr enough ↦ inl (are_enough enough)
    | inl few ↦ elim (cases_eq (count + 1) members.threshold) [
      | inr apart ↦ inr (inr (are_too_few few (inl apart)))
      | inl one ↦ elim (cases_lt (length others) group_threshold) [
        | inl lack ↦ inr (inr (are_too_few few (inr lack)))
        | inr enough ↦ inr (inl (are_one_short one enough))
      ]
    ]
  ]

  -- the value that they give
  pub value_from : (points : Result (List (ℕ × List ℕ)) ReissueError) → points_for set group_threshold groups name members ≡ points
      → missing_value set group_threshold groups name members ≡ and_then (value_at name.0 name.1) points
  unfolding missing_value
  value_from points are = ap (and_then (value_at name.0 name.1)) are

-- a share that other groups give
by_others : (set : List ShareFields) (others : List (ℕ × Members)) (group : ℕ) (share : Result (List ℕ) Mismatch) (points : List (ℕ × List ℕ))
    → share_by_others set others group ≡ share → points_by_others set others group ≡ Ok points
    → (value : List ℕ) × (share ≡ Ok value) × (points ≡ (secret_place, value) ∷ members_at_hand set group)
by_others set others group share points is given =
    by share (sym (ap (λ r. result_map_both (λ s. (secret_place, s) ∷ members_at_hand set group) (λ m. DigestMismatch m) r) is) ∙ given)
  where
    by : (r : Result (List ℕ) Mismatch)
        → result_map_both (λ s. (secret_place, s) ∷ members_at_hand set group) (λ m. DigestMismatch m) r ≡ Ok points
        → (value : List ℕ) × (r ≡ Ok value) × (points ≡ (secret_place, value) ∷ members_at_hand set group)
    by (Err m) clash = absurd (cc)
    by (Ok value) same = let are : (secret_place, value) ∷ members_at_hand set group ≡ points = cc in (value, refl, sym are)

-- ---- a value of a name of a plan

module _ (set : List ShareFields) (is_set : IsShareSet set) (group_threshold : ℕ) (groups : List Members) (plan : IsPlan group_threshold groups)
    (name : Name) (members : Members) (is_group : IsGroup members) (low_group : name.0 < most_groups) (low_member : name.1 < most_members) where
  -- the least other groups are complete
  pub least_others : group_threshold ≤ length (other_groups set groups name.0)
      → AreComplete set (take group_threshold (other_groups set groups name.0)) × (0 < length (take group_threshold (other_groups set groups name.0)))
  least_others enough =
      let few = plan.enough.few in
      let most = plan.enough.enough in
      let positive = plan.positive in
      let number = length-take-le group_threshold (other_groups set groups name.0) enough in
      (others_complete set name.0 groups plan.each few group_threshold enough (omega arith), omega arith)

  -- the points can be completed
  pub points_good : (points : List (ℕ × List ℕ)) → points_for set group_threshold groups name members ≡ Ok points
      → ArePointsOfOneLevel (value_bytes_of set) points × All (λ p. AreBytes p.1) points × (length points ≡ members.threshold)
  points_good points are = elim (which_points set group_threshold groups name members) [
    | inl all ↦
        let here : Ok (least_members set (name.0, members)) ≡ Ok points = sym all.points_are ∙ are in
        let same : least_members set (name.0, members) ≡ points = cc in
        let level = group_level set is_set (name.0, members) is_group all.enough in
        subst (λ ps. ArePointsOfOneLevel (value_bytes_of set) ps × All (λ p. AreBytes p.1) ps × (length ps ≡ members.threshold)) same (
          level-points (value_bytes_of set) (least_members set (name.0, members)) level,
          least_bytes set is_set (name.0, members) is_group all.enough,
          length-take-le members.threshold (members_at_hand set name.0) all.enough,
        )
    | inr (inl short) ↦
        let given = by_others set (take group_threshold (other_groups set groups name.0)) name.0 _ points refl (sym short.points_are ∙ are) in
        let at_hand = members_at_hand set name.0 in
        let point : ℕ × List ℕ = (secret_place, given.0) in
        let (complete, some) = least_others short.enough in
        let like = share_like_values set is_set (take group_threshold (other_groups set groups name.0)) complete some name.0 given.0 (omega arith) given.1 in
        let one = short.one in
        let most = is_group.enough.few in
        let counted = is_group.enough.enough in
        subst (λ ps. ArePointsOfOneLevel (value_bytes_of set) ps × All (λ p. AreBytes p.1) ps × (length ps ≡ members.threshold)) (sym given.2) (
          share_level set is_set name.0 given.0 like.0.0 like.1 (omega arith),
          All-cons (λ p. AreBytes p.1) point at_hand like.0.1 (members-bytes set is_set name.0),
          omega arith,
        )
    | inr (inr few) ↦
        let clash : Err (Undetermined (counts_for set group_threshold groups name members)) ≡ Ok points = sym few.points_are ∙ are in
        absurd (cc)
  ]

  -- and give a value like the others
  module _ (value : List ℕ) (is : missing_value set group_threshold groups name members ≡ Ok value) where
    pub value_like : IsLike (value_bytes_of set) value
    unfolding missing_value
    value_like =
        let gives = then_gives (value_at name.0 name.1) (points_for set group_threshold groups name members) value is in
        let good = points_good gives.a gives.first_is in
        completed_like (value_bytes_of set) gives.a good.0 good.1 name.1 value (omega arith)
        (from_ok_or (completed gives.a name.1) (DigestMismatch (InGroup name.0)) value gives.then_is)

    -- where there is one, there are shares
    pub some_at_hand : set ≢ []
    unfolding missing_value
    some_at_hand none =
        let gives = then_gives (value_at name.0 name.1) (points_for set group_threshold groups name members) value is in
        let long = (points_good gives.a gives.first_is).0.long in
        omega (arith, ap value_bytes_of none)

    pub has_first : Contains set (first_of set)
    has_first = by set some_at_hand
      where
        by : (xs : List ShareFields) → xs ≢ [] → Contains xs (first_of xs)
        by [] some = absurd (some refl)
        by (s ∷ ss) some = (0, omega arith, refl)

    -- a share of this name with this value can be printed
    pub printable : IsShare (share_like (first_of set) name members.threshold value)
    printable =
        let is = All-contains IsShare set (first_of set) is_set.each has_first in
        let positive = is_group.positive in
        let few = is_group.enough.few in
        let enough = is_group.enough.enough in
        let same : length value ≡ length (first_of set).value.items =
        value_like.0 ∙ sym (All-contains (λ s. length s.value.items ≡ value_bytes_of set) set (first_of set) (values_agree set is_set) has_first) in
        record {
          id = is.id;
          exponent = is.exponent;
          group_index = low_group;
          group_threshold = is.group_threshold;
          threshold_in_count = is.threshold_in_count;
          group_count = is.group_count;
          member_index = low_member;
          member_threshold = positive;
          member_threshold_in_range = omega arith;
          value = record { bytes = value_like.1; count = subst IsSecretLength (sym same) is.value.count };
        }
