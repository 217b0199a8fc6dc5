-- How a set keeps its shares. Public contracts cite this only as the view of a `ShareSet`.
use Rattle.std.specs.Prelude.{◌≡◌, ℕ, ◌+◌, ◌*◌, ◌<◌, List, length, filter, filter_map, Option, Some, None, Bool, not}
use Rattle.std.specs.Prelude.{◌==◌, bytes_eq, IfSome, slice_index_or, if◌then◌else◌}
use Rattle.std.specs.List.{list_any}
use Rattle.s39_words.specs.declared.share.ShareFields.{ShareFields}
use Rattle.s39_words.specs.Share.{flag_bit}
use Rattle.s39_set.specs.declared.set_error.SetError.{SetError}
use Rattle.s39_set.specs.declared.set_error.SetError.TheVariants.{OtherIdentifier, OtherExtendable, OtherExponent}
use Rattle.s39_set.specs.declared.set_error.SetError.TheVariants.{OtherGroupThreshold, OtherGroupCount, OtherLength}
use Rattle.s39_set.specs.declared.set_error.SetError.TheVariants.{OtherMemberThreshold, ConflictingShare}
use Rattle.s39_set.specs.Names.{Name, most_groups, most_members}
use Rattle.s39_set.specs.Quorums.{group_threshold_of, member_threshold_of}
use Rattle.s39_set.specs.ShareSet.{IsShareSet, name_of, is_in_group, has_name, some_differs}

-- the shares that stand in slots, in order
abbrev pub shares_at : List (Option ShareFields) → List ShareFields
shares_at slots = filter_map (λ slot. slot) slots

-- the slot of a name: as many for each group as it may have members
abbrev pub slot_of : Name → ℕ
slot_of name = most_members * name.0 + name.1

-- a share's slot stands before this one
abbrev pub IsBefore : ℕ → ShareFields → Type 0
IsBefore slot share = slot_of (name_of share) < slot

-- each share of a set stands in the slot of its name, and the thresholds are those of the shares
pub record IsKept (group_threshold : Option ℕ) (member_thresholds : List (Option ℕ)) (slots : List (Option ShareFields)) : Type 0 where
  pub is_set : IsShareSet (shares_at slots)
  pub own_slot : (k : ℕ) → IfSome (slice_index_or slots k None) (λ share. slot_of (name_of share) ≡ k)
  pub group_threshold_is : group_threshold ≡ group_threshold_of (shares_at slots)
  pub member_thresholds_are : (group : ℕ) → group < most_groups
      → slice_index_or member_thresholds group None ≡ member_threshold_of (shares_at slots) group

-- shares of the share's group have another member threshold
abbrev pub threshold_differs : List ShareFields → ShareFields → Bool
threshold_differs shares share = some_differs (λ s. s.member_threshold) (filter (is_in_group share.group_index) shares) share

-- shares of the share's name have another value
abbrev pub value_differs : List ShareFields → ShareFields → Bool
value_differs shares share =
    list_any (λ s. not (bytes_eq s.value.items share.value.items)) (filter (has_name share.group_index share.member_index) shares)

-- the first cause for which a share can't join, by one with what all have in common, and by whether the last two apply
abbrev pub first_cause : ShareFields → ShareFields → Bool → Bool → Option SetError
first_cause held share other_threshold other_value =
    if not (held.id == share.id) then Some OtherIdentifier
    else if not (flag_bit held.extendable == flag_bit share.extendable) then Some OtherExtendable
    else if not (held.exponent == share.exponent) then Some OtherExponent
    else if not (held.group_threshold == share.group_threshold) then Some OtherGroupThreshold
    else if not (held.group_count == share.group_count) then Some OtherGroupCount
    else if not (length held.value.items == length share.value.items) then Some OtherLength
    else if other_threshold then Some (OtherMemberThreshold share.group_index)
    else if other_value then Some (ConflictingShare share.group_index share.member_index)
    else None
