-- Names of a set that have of each of their groups just as many as its threshold asks, by how many each group has.
use Rattle.std.proofs.Common.{◌≡◌, ℕ, ◌<◌, Bool, List, length, filter, All, Option, Some, nat_lt, sym, ap, subst, ◌∙◌, arith}
use Rattle.std.specs.List.{range_with_len}
use Rattle.std.proofs.lemmas.List.Elements.{All-contains}
use Rattle.s39_words.specs.declared.share.ShareFields.{ShareFields}
use Rattle.s39_set.specs.Names.{Names, most_groups}
use Rattle.s39_set.specs.Groups.{is_complete, complete_groups}
use Rattle.s39_set.specs.ShareSet.{IsShareSet}
use Rattle.s39_set.specs.Quorums.{group_threshold_of, member_threshold_of, HasJustTheMembers}
use Rattle.s39_lists.proofs.Sublists.{each}
use Rattle.s39_lists.proofs.Ranges.{filter-range_agree}
use Rattle.s39_set.proofs.MembersOf.{count, counted, one_counted}
use Rattle.s39_set.proofs.ExactNames.{complete_where}
use Rattle.s39_set.proofs.SetQuorums.{member_threshold-positive}

-- some of these names are of the group
abbrev pub has_members : Names → ℕ → Bool
has_members names group = nat_lt 0 (count names group)

-- each group below a number that has some of these names has just as many as its threshold
abbrev pub AreExactBelow : (ℕ → Option ℕ) → Names → ℕ → Type 0
AreExactBelow T names n = (g : ℕ) → g < n → 0 < count names g → T g ≡ Some (count names g)

module _ (set : List ShareFields) (names : Names) where
  -- names with just the members of their groups are exact
  pub exact_from_just : HasJustTheMembers set names → AreExactBelow (member_threshold_of set) names most_groups
  exact_from_just has g below some =
      let (n, among, same) = one_counted g names some in
      subst (λ h. member_threshold_of set h ≡ Some (count names h)) same
      (All-contains (λ m. member_threshold_of set m.0 ≡ Some (count names m.0)) names n has.members among)

  -- of exact names the complete groups are those that have names
  groups-complete : IsShareSet set → AreExactBelow (member_threshold_of set) names most_groups
      → length (filter (has_members names) (range_with_len 0 most_groups)) ≡ length (complete_groups (member_threshold_of set) names)
  groups-complete is exact =
      ap length (filter-range_agree (has_members names) (is_complete (member_threshold_of set) names) 0 most_groups
      (λ g _ low. sym (complete_where (member_threshold_of set) names g (member_threshold-positive set is g) (exact g (omega arith)))))

  -- exact names have just the members, where as many groups have names as the group threshold asks
  pub just_from_exact : IsShareSet set → All (λ name. name.0 < most_groups) names → AreExactBelow (member_threshold_of set) names most_groups
      → group_threshold_of set ≡ Some (length (filter (has_members names) (range_with_len 0 most_groups))) → HasJustTheMembers set names
  just_from_exact is below exact groups = record {
    groups = groups ∙ ap Some (groups-complete is exact);
    members = each (λ n. member_threshold_of set n.0 ≡ Some (count names n.0)) names
        (λ n among. exact n.0 (All-contains (λ m. m.0 < most_groups) names n below among) (counted names n among));
  }

  -- and no others do
  pub groups_from_just : IsShareSet set → HasJustTheMembers set names
      → group_threshold_of set ≡ Some (length (filter (has_members names) (range_with_len 0 most_groups)))
  groups_from_just is has = has.groups ∙ ap Some (sym (groups-complete is (exact_from_just has)))
