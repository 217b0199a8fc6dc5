-- Mnemonics of a created backup determine its shares, and no others.
use Rattle.std.proofs.Common.{◌≡◌, ◌≢◌, ◌⊎◌, ℕ, ◌+◌, ◌<◌, ◌≤◌, ◌==◌, ◌&&◌, not, Bool, List, [], ◌∷◌, length, get_or, take, filter, map, All, Contains}
use Rattle.std.proofs.Common.{Some, Result, Ok, Err, inl, inr, refl, sym, ap, subst, ◌∙◌, arith}
use Rattle.std.specs.Prelude.{IsSomeAnd}
use Rattle.std.specs.List.{enumerate_from, slice_get}
use Rattle.std.specs.Option.{option_map_or, ok_or}
use Rattle.std.specs.Result.{result_map_both}
use Rattle.std.proofs.lemmas.Bool.{and_parts, eqb-true, leb-true}
use Rattle.std.proofs.lemmas.List.{length-map, length-take-le}
use Rattle.std.proofs.lemmas.List.Elements.{All-cons, All-map, All-take, All-filter, All-contains, All-contains_itself, filter_passes}
use Rattle.std.proofs.lemmas.List.FromFn.{length-enumerate_from, get_or-enumerate_from}
use Rattle.std.proofs.lemmas.Option.{slice_get-get_or, slice_get_within}
use Rattle.s39_kdf.specs.Bytes.{AreBytes}
use Rattle.s39_lists.specs.Each.{and_then, each}
use Rattle.s39_lists.proofs.Each.{each-map}
use Rattle.s39_lists.proofs.Sublists.{AllPairs-sublist, take-sublist}
use Rattle.s39_lists.proofs.Finds.{some_same, Contains-find}
use Rattle.s39_split.specs.Sharing.{secret_place}
use Rattle.s39_split.specs.Recovery.{AreSharesOf, AnySharesCombine}
use Rattle.s39_split.specs.Completion.{completed, ArePointsOf, AnyPointsComplete, SharesArePoints}
use Rattle.s39_split.proofs.OneOutcome.{combine_once}
use Rattle.s39_split.proofs.Completions.{complete_once}
use Rattle.s39_words.specs.declared.share.ShareFields.{ShareFields}
use Rattle.s39_set.specs.Names.{Name}
use Rattle.s39_set.specs.ShareSet.{IsShareSet, is_in_group, has_name}
use Rattle.s39_backup.specs.declared.plan.Members.{Members}
use Rattle.s39_backup.specs.declared.combination.Mismatch.TheVariants.{InGroup, OfGroups}
use Rattle.s39_backup.specs.declared.reissue_error.ReissueError.{ReissueError}
use Rattle.s39_backup.specs.declared.reissue_error.ReissueError.TheVariants.{Undetermined, DigestMismatch}
use Rattle.s39_backup.specs.Plan.{IsGroup, IsNameOfPlan}
use Rattle.s39_backup.specs.Created.{created_share, created_groups, IsCreatedFrom, AreOfBackup, asked_for}
use Rattle.s39_backup.specs.Combination.{share_or_mismatch}
use Rattle.s39_backup.specs.GroupShares.{value_bytes_of}
use Rattle.s39_backup.specs.Reissue.{IsOfPlan, AreOfPlan, members_at_hand, least_members, is_at_hand, other_groups, least_share, share_by_others, value_at}
use Rattle.s39_backup.specs.Reissue.{counts_for, first_of, share_like, missing_value, missing_share, IsReissue, IsRightFor}
use Rattle.s39_backup.specs.Reissuing.{ArePointsOfOneLevel}
use Rattle.s39_backup.proofs.Agreeing.{All-at}
use Rattle.s39_backup.proofs.Combining.{level-points, low_places}
use Rattle.s39_backup.proofs.Promise.{IsCreatedShare, in_created_groups, IsSplitAt, split_at_place}
use Rattle.s39_backup.proofs.WholeBackups.{contains_created, HasValues, values_at}
use Rattle.s39_backup.proofs.MembersAtHand.{point_of, members-distinct, members-bytes, share_level}
use Rattle.s39_backup.proofs.AtHand.{found_name}
use Rattle.s39_backup.proofs.OtherGroups.{others_complete, group_level, least_bytes, shares_level, shares_bytes, share_like_values}
use Rattle.s39_backup.proofs.Points.{low_name, which_points, value_from, has_first}
use Rattle.s39_backup.proofs.Reissues.{at_hand_or_missing}

module _ (set : List ShareFields) (is_set : IsShareSet set) (passphrase secret : List ℕ) (backup : AreOfBackup set passphrase secret) where
  abbrev created : IsCreatedFrom (asked_for secret passphrase backup.group_threshold backup.groups backup.options) backup.random backup.shares
  created = backup.created

  abbrev group_count : ℕ
  group_count = length backup.groups

  abbrev IsOne : ShareFields → Type 0
  IsOne share = IsCreatedShare created.params backup.group_threshold group_count backup.groups created.values 0 share

  one_of : (share : ShareFields) → Contains set share → IsOne share
  one_of share among =
      in_created_groups created.params backup.group_threshold group_count backup.groups created.values 0 share
      (subst (λ xs. Contains xs share) created.shares_are (All-contains (Contains backup.shares) set share backup.belong among))

  -- the shares are of the backup's plan
  of_plan : (share : ShareFields) → IsOne share → IsOfPlan backup.group_threshold backup.groups share
  of_plan share is =
      let placed : share.group_index ≡ 0 + is.place = ap (λ (s : ShareFields). s.group_index) is.share_is in
      let place : is.place ≡ share.group_index = omega arith in
      let at : slice_get backup.groups share.group_index ≡ Some is.members =
      subst (λ (p : ℕ). slice_get backup.groups p ≡ Some is.members) place is.group_is in
      let values = values_at backup.groups created.group_shares created.pieces created.values is.place is.members created.members_split is.group_is in
      let same : values.others ≡ is.others = some_same values.others is.others (sym values.values_are ∙ is.values_are) in
      let within = slice_get_within is.others is.member is.value is.value_is in
      let member : share.member_index ≡ is.member = ap (λ (s : ShareFields). s.member_index) is.share_is in
      let number = values.number in
      let low : share.member_index < is.members.count = omega (arith, ap length same) in
      record {
        threshold_is = ap (λ (s : ShareFields). s.group_threshold) is.share_is;
        count_is = ap (λ (s : ShareFields). s.group_count) is.share_is;
        member_is = subst (λ o. IsSomeAnd o (λ m. (share.member_index < m.count) × (share.member_threshold ≡ m.threshold))) (sym at)
            (low, ap (λ (s : ShareFields). s.member_threshold) is.share_is);
      }

  pub set_of_plan : AreOfPlan backup.group_threshold backup.groups set
  set_of_plan k d within =
      let share = get_or set k d in
      of_plan share (one_of share (All-contains_itself set k d within))

  -- ---- one group

  module _ (group : ℕ) (members : Members) (group_is : slice_get backup.groups group ≡ Some members) where
    values : HasValues created.values group members
    values = values_at backup.groups created.group_shares created.pieces created.values group members created.members_split group_is

    split : IsSplitAt backup.groups created.group_shares group members values.others
    split =
        split_at_place backup.groups created.group_shares created.pieces created.values group members values.others created.members_split
        group_is values.values_are

    -- the members at hand are shares of its split
    member_belongs : (share : ShareFields) → Contains set share → share.group_index ≡ group
        → slice_get values.others share.member_index ≡ Some share.value.items
    member_belongs share among in_group =
        let is = one_of share among in
        let placed : share.group_index ≡ 0 + is.place = ap (λ (s : ShareFields). s.group_index) is.share_is in
        let place : is.place ≡ group = omega arith in
        let same : is.others ≡ values.others =
        some_same is.others values.others (sym is.values_are ∙ ap (slice_get created.values) place ∙ values.values_are) in
        let member : share.member_index ≡ is.member = ap (λ (s : ShareFields). s.member_index) is.share_is in
        let value : share.value.items ≡ is.value = ap (λ (s : ShareFields). s.value.items) is.share_is in
        ap (slice_get values.others) member ∙ ap (λ vs. slice_get vs is.member) (sym same) ∙ is.value_is ∙ ap Some (sym value)

    members_belong : All (λ point. slice_get values.others point.0 ≡ Some point.1) (members_at_hand set group)
    members_belong =
        let of_group = filter (is_in_group group) set in
        All-map (λ point. slice_get values.others point.0 ≡ Some point.1) point_of of_group
        (λ k d within.
        let share = get_or of_group k d in
        member_belongs share (All-filter (is_in_group group) (Contains set) set (All-contains_itself set) k d within)
        (eqb-true share.group_index group (filter_passes (is_in_group group) set k d within)))

    least_belong : (n : ℕ) → AreSharesOf values.others (take n (members_at_hand set group))
    least_belong n = record {
      distinct = AllPairs-sublist (λ a b. a.0 ≢ b.0) (take-sublist n (members_at_hand set group)) (members-distinct set is_set group);
      belong = All-take (λ point. slice_get values.others point.0 ≡ Some point.1) n (members_at_hand set group) members_belong;
    }

    -- its least members combine to its share
    least_combine : AnySharesCombine → IsGroup members → members.threshold ≤ length (members_at_hand set group)
        → least_share set (group, members) ≡ Ok (group, split.share)
    least_combine any is_group enough =
        let level = group_level set is_set (group, members) is_group enough in
        let combines = any members.threshold members.count split.share split.piece values.others (least_members set (group, members)) split.split
        (least_belong members.threshold) (length-take-le members.threshold (members_at_hand set group) enough) in
        ap (share_or_mismatch group)
        (sym (combine_once members.threshold (least_members set (group, members)) (Some split.share) level.some
        (λ k d within. let low = level.indices k d within in omega arith) level.distinct combines.0))

    -- points of it complete to the value of each member
    module _ (member : ℕ) (below : member < members.count) (any : AnyPointsComplete) where
      abbrev value : List ℕ
      value = get_or values.others member []

      value_is : slice_get values.others member ≡ Some value
      value_is = let number = values.number in slice_get-get_or values.others member [] (omega arith)

      complete_to : (points : List (ℕ × List ℕ)) → ArePointsOf split.share values.others points → ArePointsOfOneLevel (value_bytes_of set) points
          → All (λ point. AreBytes point.1) points → length points ≡ members.threshold → completed points member ≡ Some value
      complete_to points choice level bytes number =
          let completes = any members.threshold members.count split.share split.piece values.others points member value bytes split.split choice number
          value_is in
          sym (complete_once members.threshold points member (Some value) level.some (low_places (value_bytes_of set) points level) level.distinct completes.0)

  -- ---- the share of a group, from others

  -- the share of a group of the plan
  share_at : ℕ → List ℕ
  share_at group = option_map_or (λ share. share) (slice_get created.group_shares group) []

  share_at-is : (group : ℕ) (share : List ℕ) → slice_get created.group_shares group ≡ Some share → share_at group ≡ share
  unfolding share_at
  share_at-is group share is = ap (λ o. option_map_or (λ share. share) o []) is

  -- groups of the plan, of which enough members are at hand, have their shares
  abbrev IsOfPlanAndAtHand : ℕ × Members → Type 0
  IsOfPlanAndAtHand other = (slice_get created.group_shares other.0 ≡ Some (share_at other.0)) × (least_share set other ≡ Ok (other.0, share_at other.0))

  all_known : AnySharesCombine → (n group : ℕ) → All IsOfPlanAndAtHand (take n (other_groups set backup.groups group))
  all_known any n group =
      let all = enumerate_from 0 backup.groups in
      let is_other : ℕ × Members → Bool = λ other. not (other.0 == group) && is_at_hand set other in
      let planned : All (λ g. (slice_get backup.groups g.0 ≡ Some g.1) × IsGroup g.1) all =
      λ k d within.
      let number = length-enumerate_from 0 backup.groups in
      let is_group : IsGroup (get_or backup.groups k d.1) = backup.is_plan.each k d.1 (omega arith) in
      let start : 0 + k ≡ k = omega arith in
      let at : get_or all k d ≡ (k, get_or backup.groups k d.1) =
      get_or-enumerate_from 0 backup.groups k d (omega arith) ∙ ap (λ (p : ℕ). (p, get_or backup.groups k d.1)) start in
      rw at (slice_get-get_or backup.groups k d.1 (omega arith), is_group) in
      All-take IsOfPlanAndAtHand n (filter is_other all)
      (λ k d within.
      let g = get_or (filter is_other all) k d in
      let passes = filter_passes is_other all k d within in
      let plan = All-filter is_other (λ g. (slice_get backup.groups g.0 ≡ Some g.1) × IsGroup g.1) all planned k d within in
      let enough = leb-true g.1.threshold (length (members_at_hand set g.0)) (and_parts (not (g.0 == group)) (is_at_hand set g) passes).1 in
      let at = split g.0 g.1 plan.0 in
      let same = share_at-is g.0 at.share at.share_is in
      rw same (at.share_is, least_combine g.0 g.1 plan.0 any plan.1 enough))

  module _ (any : AnySharesCombine) (complete : AnyPointsComplete) (as_points : SharesArePoints) (group : ℕ) (members : Members)
      (group_is : slice_get backup.groups group ≡ Some members) where
    low : group < 256
    low = let within = slice_get_within backup.groups group members group_is in let few = backup.is_plan.enough.few in omega arith

    -- what they give is the share of the group
    told : backup.group_threshold ≤ length (other_groups set backup.groups group)
        → share_by_others set (take backup.group_threshold (other_groups set backup.groups group)) group ≡ Ok (split group members group_is).share
    unfolding share_by_others
    told enough =
        let at = split group members group_is in
        let others = take backup.group_threshold (other_groups set backup.groups group) in
        let few = backup.is_plan.enough.few in
        let most = backup.is_plan.enough.enough in
        let positive = backup.is_plan.positive in
        let number = length-take-le backup.group_threshold (other_groups set backup.groups group) enough in
        let complete_others = others_complete set group backup.groups backup.is_plan.each few backup.group_threshold enough (omega arith) in
        let with_share : ℕ × Members → ℕ × List ℕ = λ other. (other.0, share_at other.0) in
        let shares = map with_share others in
        let known = all_known any backup.group_threshold group in
        let all : each (least_share set) others ≡ Ok shares = each-map (least_share set) with_share others (λ k d within. (known k d within).1) in
        let level = shares_level set is_set others complete_others (omega arith) shares all in
        let choice : AreSharesOf created.group_shares shares = record {
          distinct = level.distinct;
          belong = All-map (λ s. slice_get created.group_shares s.0 ≡ Some s.1) with_share others (λ k d within. (known k d within).0);
        } in
        let completes = complete backup.group_threshold group_count created.encrypted created.group_piece created.group_shares shares group at.share
        (shares_bytes set is_set others complete_others (omega arith) shares all) created.groups_split
        (as_points backup.group_threshold group_count created.encrypted created.group_piece created.group_shares shares created.groups_split choice).0
        (length-map others with_share ∙ number) at.share_is in
        ap (and_then (λ shares. ok_or (completed shares group) OfGroups)) all
        ∙ ap (λ o. ok_or o OfGroups) (sym (complete_once backup.group_threshold shares group (Some at.share) level.some
        (low_places (value_bytes_of set) shares level) level.distinct completes.0))

    -- ---- a member that isn't at hand

    module _ (member : ℕ) (below : member < members.count) where
      is_group : IsGroup members
      is_group = All-at IsGroup backup.groups group members backup.is_plan.each group_is

      its_value : List ℕ
      its_value = get_or (values group members group_is).others member []

      -- a value that is missing is its value, unless too few are at hand
      known_value : (missing_value set backup.group_threshold backup.groups (group, member) members ≡ Ok its_value)
          ⊎ (missing_value set backup.group_threshold backup.groups (group, member) members
          ≡ Err (Undetermined (counts_for set backup.group_threshold backup.groups (group, member) members)))
      unfolding its_value
      known_value =
          let at = split group members group_is in
          let others = (values group members group_is).others in
          let at_hand = members_at_hand set group in
          let from = value_from set backup.group_threshold backup.groups (group, member) members in
          let most = is_group.enough.few in
          let counted = is_group.enough.enough in
          elim (which_points set backup.group_threshold backup.groups (group, member) members) [
            | inl all ↦
                let points = least_members set (group, members) in
                inl (from _ all.points_are ∙ ap (λ o. ok_or o (DigestMismatch (InGroup group)))
                (complete_to group members group_is member below complete points
                (as_points members.threshold members.count at.share at.piece others points at.split
                (least_belong group members group_is members.threshold)).0
                (level-points (value_bytes_of set) points (group_level set is_set (group, members) is_group all.enough))
                (least_bytes set is_set (group, members) is_group all.enough)
                (length-take-le members.threshold at_hand all.enough)))
            | inr (inl short) ↦
                let point : ℕ × List ℕ = (secret_place, at.share) in
                let one = short.one in
                let plan_few = backup.is_plan.enough.few in
                let plan_most = backup.is_plan.enough.enough in
                let positive = backup.is_plan.positive in
                let number = length-take-le backup.group_threshold (other_groups set backup.groups group) short.enough in
                let like = share_like_values set is_set (take backup.group_threshold (other_groups set backup.groups group))
                (others_complete set group backup.groups backup.is_plan.each plan_few backup.group_threshold short.enough (omega arith)) (omega arith)
                group at.share low (told short.enough) in
                inl (from _ short.points_are
                ∙ ap (λ r. and_then (value_at group member) (result_map_both (λ s. (secret_place, s) ∷ at_hand) (λ m. DigestMismatch m) r)) (told short.enough)
                ∙ ap (λ o. ok_or o (DigestMismatch (InGroup group)))
                (complete_to group members group_is member below complete (point ∷ at_hand)
                (as_points members.threshold members.count at.share at.piece others at_hand at.split
                (record { distinct = members-distinct set is_set group; belong = members_belong group members group_is })).1
                (share_level set is_set group at.share like.0.0 like.1 (omega arith))
                (All-cons (λ p. AreBytes p.1) point at_hand like.0.1 (members-bytes set is_set group))
                (omega arith)))
            | inr (inr few) ↦ inr (from _ few.points_are)
          ]

      -- the backup has the share with its value
      right_share : (like : ShareFields) → Contains set like → Contains backup.shares (share_like like (group, member) members.threshold its_value)
      unfolding its_value
      right_share like among =
          let is = one_of like among in
          let start : 0 + group ≡ group = omega arith in
          let one = created_share created.params backup.group_threshold group_count group members member its_value in
          let same : share_like like (group, member) members.threshold its_value ≡ one =
          ap (λ (s : ShareFields). share_like s (group, member) members.threshold its_value) is.share_is in
          let has = contains_created created.params backup.group_threshold group_count 0 backup.groups created.values group members
          (values group members group_is).others member its_value group_is (values group members group_is).values_are
          (value_is group members group_is member below complete) in
          subst (Contains backup.shares) (sym same)
          (subst (λ xs. Contains xs one) (sym created.shares_are)
          (subst (λ (n : ℕ). Contains (created_groups created.params backup.group_threshold group_count 0 backup.groups created.values)
          (created_share created.params backup.group_threshold group_count n members member its_value)) start has))

      right_missing : IsNameOfPlan backup.groups (group, member) → (result : Result ShareFields ReissueError)
          → result ≡ missing_share set backup.group_threshold backup.groups (group, member) members → IsRightFor backup.shares (group, member) result
      right_missing named result is = subst (IsRightFor backup.shares (group, member)) (sym is) (elim known_value [
        | inr few ↦ rw few tt
        | inl here ↦
            let (low, low_member, is_group) = low_name backup.group_threshold backup.groups group member members backup.is_plan group_is named in
            let among = has_first set is_set backup.group_threshold backup.groups backup.is_plan (group, member) members is_group low low_member
            its_value here in
            rw here (right_share (first_of set) among, refl)
      ])

  -- ---- a share

  pub right : AnySharesCombine → AnyPointsComplete → SharesArePoints → (name : Name) (result : Result ShareFields ReissueError)
      → IsNameOfPlan backup.groups name → IsReissue set backup.group_threshold backup.groups name result → IsRightFor backup.shares name result
  right any complete as_points name result named is = elim (at_hand_or_missing set backup.group_threshold backup.groups name result is) [
    | inl at_hand ↦
        let among = Contains-find (has_name name.0 name.1) set at_hand.share at_hand.found in
        subst (IsRightFor backup.shares name) (sym at_hand.is)
        (All-contains (Contains backup.shares) set at_hand.share backup.belong among, found_name name.0 name.1 set at_hand.share at_hand.found)
    | inr missing ↦
        let below : name.1 < missing.members.count = subst (λ o. IsSomeAnd o (λ m. name.1 < m.count)) missing.group_is named in
        right_missing any complete as_points name.0 missing.members missing.group_is name.1 below named result missing.is
  ]
