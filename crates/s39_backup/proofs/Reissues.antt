-- The share of a name of a plan: whether there is one, and that it can be printed.
use Rattle.std.proofs.Common.{◌≡◌, ℕ, ◌+◌, ◌<◌, ◌≤◌, List, ◌∷◌, length, take, find, map, Contains, Option, Some, None, Result, Ok, Err}
use Rattle.std.proofs.Common.{inl, inr, ◌⊎◌, refl, sym, ap, subst, ◌∙◌, arith}
use Rattle.std.specs.Prelude.{IsSomeAnd}
use Rattle.std.specs.List.{slice_get}
use Rattle.std.specs.Option.{option_map, option_or, ok_or}
use Rattle.std.specs.Result.{result_map_both}
use Rattle.std.proofs.lemmas.List.Elements.{All-contains}
use Rattle.s39_lists.specs.Each.{and_then}
use Rattle.s39_lists.proofs.Finds.{Contains-find, some_same}
use Rattle.s39_lists.proofs.Images.{Contains-map}
use Rattle.s39_split.specs.Completion.{completed}
use Rattle.s39_split.specs.Sharing.{secret_place}
use Rattle.s39_words.specs.declared.share.ShareFields.{ShareFields}
use Rattle.s39_words.specs.Share.{IsShare}
use Rattle.s39_set.specs.Names.{Name}
use Rattle.s39_set.specs.ShareSet.{IsShareSet, name_of, has_name}
use Rattle.s39_backup.specs.declared.plan.Members.{Members}
use Rattle.s39_backup.specs.declared.combination.Mismatch.{Mismatch}
use Rattle.s39_backup.specs.declared.combination.Mismatch.TheVariants.{InGroup}
use Rattle.s39_backup.specs.declared.reissue_error.ReissueError.{ReissueError}
use Rattle.s39_backup.specs.declared.reissue_error.ReissueError.TheVariants.{Undetermined, DigestMismatch}
use Rattle.s39_backup.specs.declared.reissue_error.TooFew.{TooFew}
use Rattle.s39_backup.specs.Plan.{IsPlan, IsNameOfPlan}
use Rattle.s39_backup.specs.Reissue.{members_at_hand, least_members, other_groups, share_by_others, counts_for, first_of, share_like, value_at}
use Rattle.s39_backup.specs.Reissue.{missing_value, missing_share, reissue_of, IsReissue, IsDetermined, IsUndetermined}
use Rattle.s39_backup.proofs.Points.{low_name, which_points, value_from, printable}
use Rattle.s39_backup.proofs.AtHand.{found_name, not_found}

module _ (set : List ShareFields) (group_threshold : ℕ) (groups : List Members) (name : Name) where
  -- the set has the share
  pub record IsAtHand (result : Result ShareFields ReissueError) : Type 0 where
    pub share : ShareFields
    pub found : find (has_name name.0 name.1) set ≡ Some share
    pub is : result ≡ Ok share

  -- it doesn't, and the plan has the group
  pub record IsMissing (result : Result ShareFields ReissueError) : Type 0 where
    pub missing : find (has_name name.0 name.1) set ≡ None
    pub members : Members
    pub group_is : slice_get groups name.0 ≡ Some members
    pub is : result ≡ missing_share set group_threshold groups name members

  pub at_hand_or_missing : (result : Result ShareFields ReissueError) → IsReissue set group_threshold groups name result → IsAtHand result ⊎ IsMissing result
  unfolding reissue_of
  at_hand_or_missing result is = by (find (has_name name.0 name.1) set) refl (slice_get groups name.0) refl is
    where
      by : (found : Option ShareFields) → find (has_name name.0 name.1) set ≡ found → (at : Option Members) → slice_get groups name.0 ≡ at
          → option_or (option_map (λ share. Ok share) found) (option_map (missing_share set group_threshold groups name) at) ≡ Some result
          → IsAtHand result ⊎ IsMissing result
      by (Some share) here at group_is answer = inl (record { share = share; found = here; is = sym (some_same (Ok share) result answer) })
      by None here None group_is answer = absurd (cc)
      by None here (Some members) group_is answer =
          inr (record {
            missing = here;
            members = members;
            group_is = group_is;
            is = sym (some_same (missing_share set group_threshold groups name members) result answer);
          })

  -- what is found is the answer, and otherwise what is missing
  pub reissue_found : (share : ShareFields) → find (has_name name.0 name.1) set ≡ Some share → IsReissue set group_threshold groups name (Ok share)
  unfolding reissue_of
  reissue_found share here = rw here refl

  pub reissue_missing : (answer : Option (Result ShareFields ReissueError)) → find (has_name name.0 name.1) set ≡ None
      → option_map (missing_share set group_threshold groups name) (slice_get groups name.0) ≡ answer
      → reissue_of set group_threshold groups name ≡ answer
  unfolding reissue_of
  reissue_missing answer here is = rw here is

  -- every name of a plan has an answer
  pub reissue_exists : IsNameOfPlan groups name → (result : Result ShareFields ReissueError) × IsReissue set group_threshold groups name result
  reissue_exists named = by (find (has_name name.0 name.1) set) refl (slice_get groups name.0) refl
    where
      by : (found : Option ShareFields) → find (has_name name.0 name.1) set ≡ found → (at : Option Members) → slice_get groups name.0 ≡ at
          → (result : Result ShareFields ReissueError) × IsReissue set group_threshold groups name result
      by (Some share) here at group_is = (Ok share, reissue_found share here)
      by None here None group_is = absurd (subst (λ o. IsSomeAnd o (λ m. name.1 < m.count)) group_is named)
      by None here (Some members) group_is = (
        missing_share set group_threshold groups name members,
        reissue_missing (Some (missing_share set group_threshold groups name members)) here
            (ap (option_map (missing_share set group_threshold groups name)) group_is),
      )

  -- a missing share has a value, or there is none for this cause
  pub record HasMissing (members : Members) (share : ShareFields) : Type 0 where
    pub value : List ℕ
    pub value_is : missing_value set group_threshold groups name members ≡ Ok value
    pub share_is : share ≡ share_like (first_of set) name members.threshold value

  pub has_missing : (members : Members) (share : ShareFields) → Ok share ≡ missing_share set group_threshold groups name members
      → HasMissing members share
  has_missing members share is = by (missing_value set group_threshold groups name members) refl is
    where
      by : (value : Result (List ℕ) ReissueError) → missing_value set group_threshold groups name members ≡ value
          → Ok share ≡ result_map_both (share_like (first_of set) name members.threshold) (λ error. error) value → HasMissing members share
      by (Ok value) here same = let is : share ≡ share_like (first_of set) name members.threshold value = cc in
          record { value = value; value_is = here; share_is = is }
      by (Err error) here same = absurd (cc)

  pub has_error : (members : Members) (error : ReissueError) → Err error ≡ missing_share set group_threshold groups name members
      → missing_value set group_threshold groups name members ≡ Err error
  has_error members error is = by (missing_value set group_threshold groups name members) is
    where
      by : (value : Result (List ℕ) ReissueError)
          → Err error ≡ result_map_both (share_like (first_of set) name members.threshold) (λ error. error) value → value ≡ Err error
      by (Ok value) same = absurd (cc)
      by (Err other) same = let is : error ≡ other = cc in ap (λ e. Err e) (sym is)

  module _ (is_set : IsShareSet set) where
    -- an answer that is a share can be printed
    pub reissued_are_shares : IsPlan group_threshold groups → IsNameOfPlan groups name → (share : ShareFields)
        → IsReissue set group_threshold groups name (Ok share) → IsShare share
    reissued_are_shares plan named share is = elim (at_hand_or_missing (Ok share) is) [
      | inl at_hand ↦
          let same : share ≡ at_hand.share = let e = at_hand.is in cc in
          subst IsShare (sym same)
          (All-contains IsShare set at_hand.share is_set.each (Contains-find (has_name name.0 name.1) set at_hand.share at_hand.found))
      | inr missing ↦
          let (low, low_member, is_group) = low_name group_threshold groups name.0 name.1 missing.members plan missing.group_is named in
          let has = has_missing missing.members share missing.is in
          subst IsShare (sym has.share_is)
          (printable set is_set group_threshold groups plan name missing.members is_group low low_member has.value has.value_is)
    ]

    -- ---- which names are determined

    pub is_determined : (share : ShareFields) → IsReissue set group_threshold groups name (Ok share) → IsDetermined set group_threshold groups name
    is_determined share is = elim (at_hand_or_missing (Ok share) is) [
      | inl at_hand ↦ inl (subst (Contains (map name_of set)) (found_name name.0 name.1 set at_hand.share at_hand.found)
          (Contains-map name_of set at_hand.share (Contains-find (has_name name.0 name.1) set at_hand.share at_hand.found)))
      | inr missing ↦ inr (subst (λ o. IsSomeAnd o (λ members. (members.threshold ≤ length (members_at_hand set name.0))
          ⊎ ((length (members_at_hand set name.0) + 1 ≡ members.threshold) × (group_threshold ≤ length (other_groups set groups name.0)))))
          (sym missing.group_is)
          (elim (which_points set group_threshold groups name missing.members) [
            | inl all ↦ inl all.enough
            | inr (inl short) ↦ inr (short.one, short.enough)
            | inr (inr few) ↦
                let has = has_missing missing.members share missing.is in
                let clash : Err (Undetermined (counts_for set group_threshold groups name missing.members)) ≡ Ok has.value =
                sym (value_from set group_threshold groups name missing.members _ few.points_are) ∙ has.value_is in
                absurd (cc)
          ]))
    ]

    pub is_undetermined : (few : TooFew) → IsReissue set group_threshold groups name (Err (Undetermined few))
        → IsUndetermined set group_threshold groups name few
    is_undetermined few is = elim (at_hand_or_missing (Err (Undetermined few)) is) [
      | inl at_hand ↦ (let clash = at_hand.is in absurd (cc))
      | inr missing ↦
          let members = missing.members in
          let value = has_error members (Undetermined few) missing.is in
          let from = value_from set group_threshold groups name members in
          elim (which_points set group_threshold groups name members) [
            | inl all ↦ absurd (no_lack (completed (least_members set (name.0, members)) name.1) (InGroup name.0) few (sym (from _ all.points_are) ∙ value))
            | inr (inl short) ↦ absurd (no_lack_of_others (share_by_others set (take group_threshold (other_groups set groups name.0)) name.0) few
                (sym (from _ short.points_are) ∙ value))
            | inr (inr lack) ↦
                let same : Err (Undetermined (counts_for set group_threshold groups name members)) ≡ Err (Undetermined few) =
                sym (from _ lack.points_are) ∙ value in
                let counted : few ≡ counts_for set group_threshold groups name members = cc in
                let below = lack.few in
                record {
                  undetermined = λ determined. elim determined [
                    | inl among ↦ not_found set is_set name missing.missing among
                    | inr held ↦ elim (subst (λ o. IsSomeAnd o (λ members. (members.threshold ≤ length (members_at_hand set name.0))
                        ⊎ ((length (members_at_hand set name.0) + 1 ≡ members.threshold)
                        × (group_threshold ≤ length (other_groups set groups name.0))))) missing.group_is held) [
                          | inl enough ↦ omega arith
                          | inr short ↦ elim lack.lack [
                            | inl apart ↦ apart short.0
                            | inr fewer ↦ (let enough = short.1 in omega arith)
                          ]
                        ]
                  ];
                  counts = subst (λ o. IsSomeAnd o (λ m. few ≡ counts_for set group_threshold groups name m)) (sym missing.group_is) counted;
                }
          ]
    ]
      where
        no_lack : (o : Option (List ℕ)) (mismatch : Mismatch) (few : TooFew) → ok_or o (DigestMismatch mismatch) ≡ Err (Undetermined few) → ⊥
        no_lack None mismatch few clash = cc
        no_lack (Some value) mismatch few clash = cc

        no_lack_of_others : (share : Result (List ℕ) Mismatch) (few : TooFew)
            → and_then (value_at name.0 name.1)
            (result_map_both (λ s. (secret_place, s) ∷ members_at_hand set name.0) (λ mismatch. DigestMismatch mismatch) share) ≡ Err (Undetermined few) → ⊥
        no_lack_of_others (Err mismatch) few clash = cc
        no_lack_of_others (Ok share) few clash = no_lack (completed ((secret_place, share) ∷ members_at_hand set name.0) name.1) (InGroup name.0) few clash
