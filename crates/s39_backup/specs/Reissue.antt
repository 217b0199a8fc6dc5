-- The shares of a plan that the shares at hand determine: what these are, and which shares they determine.
use Rattle.std.specs.Prelude.{◌≡◌, ◌⊎◌, ◌↔◌, ℕ, ◌+◌, ◌*◌, ◌<◌, ◌≤◌, ◌==◌, ◌&&◌, not, nat_le, Bool, false, if◌then◌else◌, List, [], ◌∷◌, length}
use Rattle.std.specs.Prelude.{map, filter, find, take, All, Contains, Option, Some, Result, Ok, Err, IsSomeAnd}
use Rattle.std.specs.List.{enumerate_from, slice_get}
use Rattle.std.specs.Option.{option_map, option_or, ok_or}
use Rattle.std.specs.Result.{result_map_both}
use Rattle.s39_refusal.specs.declared.cause.Cause.{Cause}
use Rattle.s39_refusal.specs.Causes.{cause}
use Rattle.s39_lists.specs.Each.{and_then, each}
use Rattle.s39_split.specs.Sharing.{secret_place}
use Rattle.s39_split.specs.Recovery.{Combines, combined}
use Rattle.s39_split.specs.Completion.{Completes, completed}
use Rattle.s39_words.specs.declared.share.ShareFields.{ShareFields}
use Rattle.s39_set.specs.Names.{Name}
use Rattle.s39_set.specs.ShareSet.{IsShareSet, name_of, is_in_group, has_name}
use Rattle.s39_backup.specs.RecoverError.{mismatch_cause_of}
use Rattle.s39_backup.specs.Combination.{share_or_mismatch}
use Rattle.s39_backup.specs.Plan.{IsPlan, IsNameOfPlan}
use Rattle.s39_backup.specs.declared.plan.Members.{Members}
use Rattle.s39_backup.specs.declared.combination.Mismatch.{Mismatch}
use Rattle.s39_backup.specs.declared.combination.Mismatch.TheVariants.{InGroup, OfGroups}
use Rattle.s39_backup.specs.declared.reissue_error.ReissueError.{ReissueError}
use Rattle.s39_backup.specs.declared.reissue_error.TooFew.{TooFew}
use Rattle.s39_backup.specs.declared.reissue_error.ReissueError.TheVariants.{Undetermined, DigestMismatch}

-- ---- shares of a plan

-- a share that a backup of this plan can have
pub record IsOfPlan (group_threshold : ℕ) (groups : List Members) (share : ShareFields) : Type 0 where
  pub threshold_is : share.group_threshold ≡ group_threshold
  pub count_is : share.group_count ≡ length groups
  pub member_is : IsSomeAnd (slice_get groups share.group_index)
      (λ members. (share.member_index < members.count) × (share.member_threshold ≡ members.threshold))

-- a backup of this plan can have all of these shares
abbrev pub AreOfPlan : ℕ → List Members → List ShareFields → Type 0
AreOfPlan group_threshold groups set = All (IsOfPlan group_threshold groups) set

-- ---- what is at hand

-- the members of a group that are at hand, in order, each as its member index and its value
abbrev pub members_at_hand : List ShareFields → ℕ → List (ℕ × List ℕ)
members_at_hand set group = map (λ share. (share.member_index, share.value.items)) (filter (is_in_group group) set)

-- the least of them, at most as many as the group needs; a group is its index and its members in the plan
abbrev pub least_members : List ShareFields → ℕ × Members → List (ℕ × List ℕ)
least_members set group = take group.1.threshold (members_at_hand set group.0)

-- at least as many members as a group needs are at hand
abbrev pub is_at_hand : List ShareFields → ℕ × Members → Bool
is_at_hand set group = nat_le group.1.threshold (length (members_at_hand set group.0))

-- the groups of a plan that have enough members at hand, without this one
abbrev pub other_groups : List ShareFields → List Members → ℕ → List (ℕ × Members)
other_groups set groups group = filter (λ other. not (other.0 == group) && is_at_hand set other) (enumerate_from 0 groups)

-- ---- the share of a group, from other groups

-- what the least members of a group combine to
abbrev pub least_share : List ShareFields → ℕ × Members → Result (ℕ × List ℕ) Mismatch
least_share set group = share_or_mismatch group.0 (combined (least_members set group))

-- the share of a group that other groups give, or the mismatch of their digests: in the first of them that is refused,
-- or else of the groups
unfoldable pub share_by_others : List ShareFields → List (ℕ × Members) → ℕ → Result (List ℕ) Mismatch
share_by_others set others group = and_then (λ shares. ok_or (completed shares group) OfGroups) (each (least_share set) others)

-- the members of a group and its share, which other groups give
abbrev pub points_by_others : List ShareFields → List (ℕ × Members) → ℕ → Result (List (ℕ × List ℕ)) ReissueError
points_by_others set others group =
    result_map_both (λ share. (secret_place, share) ∷ members_at_hand set group) (λ mismatch. DigestMismatch mismatch)
    (share_by_others set others group)

-- ---- a share that isn't at hand

-- the value that points of a group give for a member, or the mismatch of their digest
abbrev pub value_at : ℕ → ℕ → List (ℕ × List ℕ) → Result (List ℕ) ReissueError
value_at group member points = ok_or (completed points member) (DigestMismatch (InGroup group))

-- both counts for a name: how many members of its group are at hand and how many are needed, and how many other groups
-- have enough members at hand and how many groups are needed
abbrev pub counts_for : List ShareFields → ℕ → List Members → Name → Members → TooFew
counts_for set group_threshold groups name members = record {
  group = name.0;
  member = name.1;
  members = length (members_at_hand set name.0);
  threshold = members.threshold;
  others = length (other_groups set groups name.0);
  required = group_threshold;
}

-- the share of a set from which a missing one takes its other fields, in which all agree: the first, or one of zeros
abbrev pub first_of : List ShareFields → ShareFields
first_of [] = record {
  id = 0;
  extendable = false;
  exponent = 0;
  group_index = 0;
  group_threshold = 0;
  group_count = 0;
  member_index = 0;
  member_threshold = 0;
  value = record { items = [] };
}
first_of (share ∷ shares) = share

-- a share like this one, with another name, member threshold and value
abbrev pub share_like : ShareFields → Name → ℕ → List ℕ → ShareFields
share_like share name threshold value = record share {
  group_index = name.0;
  member_index = name.1;
  member_threshold = threshold;
  value = record { items = value };
}

-- a name of a plan, and the members of its group
module _ (set : List ShareFields) (group_threshold : ℕ) (groups : List Members) (name : Name) (members : Members) where
  -- how many members of the group are at hand
  abbrev pub count_at_hand : ℕ
  count_at_hand = length (members_at_hand set name.0)

  -- one member is missing, and there are as many other groups as are needed
  abbrev pub is_one_short : Bool
  is_one_short = (count_at_hand + 1 == members.threshold) && nat_le group_threshold (length (other_groups set groups name.0))

  -- The points that determine the group's members, as many as it needs: its least members; if it is one short, its
  -- members and its share, which the least other groups give; otherwise none, and the refusal has both counts.
  abbrev pub points_for : Result (List (ℕ × List ℕ)) ReissueError
  points_for =
      if nat_le members.threshold count_at_hand then Ok (least_members set (name.0, members))
      else if is_one_short then points_by_others set (take group_threshold (other_groups set groups name.0)) name.0
      else Err (Undetermined (counts_for set group_threshold groups name members))

  -- the value that these points give for the member, or the mismatch of their digest
  unfoldable pub missing_value : Result (List ℕ) ReissueError
  missing_value = and_then (value_at name.0 name.1) points_for

  -- its share, or why those at hand don't determine it; its other fields are those of the set
  abbrev pub missing_share : Result ShareFields ReissueError
  missing_share = result_map_both (share_like (first_of set) name members.threshold) (λ error. error) missing_value

-- ---- the share of a name

-- The share of a name of a plan, as the shares at hand determine it: the one that they have, or the one that follows
-- from them; or why they don't determine it. There is no answer if they don't have it and the plan doesn't have its group.
unfoldable pub reissue_of : List ShareFields → ℕ → List Members → Name → Option (Result ShareFields ReissueError)
reissue_of set group_threshold groups name =
    option_or (option_map (λ share. Ok share) (find (has_name name.0 name.1) set))
    (option_map (missing_share set group_threshold groups name) (slice_get groups name.0))

-- this is the answer
abbrev pub IsReissue : List ShareFields → ℕ → List Members → Name → Result ShareFields ReissueError → Type 0
IsReissue set group_threshold groups name result = reissue_of set group_threshold groups name ≡ Some result

-- ---- as the standard says

-- points that determine a member complete to what is computed, and to nothing else
abbrev pub PointsAreCompleted : Type 0
PointsAreCompleted =
    (set : List ShareFields) (group_threshold : ℕ) (groups : List Members) (name : Name) (members : Members) (points : List (ℕ × List ℕ))
    (outcome : Option (List ℕ))
    → IsShareSet set → IsPlan group_threshold groups → IsNameOfPlan groups name → slice_get groups name.0 ≡ Some members
    → points_for set group_threshold groups name members ≡ Ok points
    → (Completes members.threshold points name.1 outcome ↔ (outcome ≡ completed points name.1))

-- so do the shares of the least other groups
abbrev pub OtherSharesAreCompleted : Type 0
OtherSharesAreCompleted =
    (set : List ShareFields) (group_threshold : ℕ) (groups : List Members) (group : ℕ) (shares : List (ℕ × List ℕ)) (outcome : Option (List ℕ))
    → IsShareSet set → IsPlan group_threshold groups → group_threshold ≤ length (other_groups set groups group)
    → each (least_share set) (take group_threshold (other_groups set groups group)) ≡ Ok shares
    → (Completes group_threshold shares group outcome ↔ (outcome ≡ completed shares group))

-- and the least members of each of these groups combine so
abbrev pub LeastMembersAreCombined : Type 0
LeastMembersAreCombined =
    (set : List ShareFields) (group_threshold : ℕ) (groups : List Members) (group : ℕ) (other : ℕ × Members) (outcome : Option (List ℕ))
    → IsShareSet set → IsPlan group_threshold groups → group_threshold ≤ length (other_groups set groups group)
    → Contains (take group_threshold (other_groups set groups group)) other
    → (Combines other.1.threshold (least_members set other) outcome ↔ (outcome ≡ combined (least_members set other)))

-- ---- which names are determined

-- The shares at hand determine the share of a name of a plan: they have it, or they have as many members of its group
-- as are needed, or one fewer and as many other groups as are needed.
abbrev pub IsDetermined : List ShareFields → ℕ → List Members → Name → Type 0
IsDetermined set group_threshold groups name =
    Contains (map name_of set) name
    ⊎ IsSomeAnd (slice_get groups name.0) (λ members.
    (members.threshold ≤ length (members_at_hand set name.0))
    ⊎ ((length (members_at_hand set name.0) + 1 ≡ members.threshold) × (group_threshold ≤ length (other_groups set groups name.0))))

-- the share of this name isn't determined, and these are both counts for it
pub record IsUndetermined (set : List ShareFields) (group_threshold : ℕ) (groups : List Members) (name : Name) (few : TooFew) : Type 0 where
  pub undetermined : ¬ IsDetermined set group_threshold groups name
  pub counts : IsSomeAnd (slice_get groups name.0) (λ members. few ≡ counts_for set group_threshold groups name members)

-- the share of the name in a backup with these shares, or that the shares at hand don't determine it, and no mismatch
abbrev pub IsRightFor : List ShareFields → Name → Result ShareFields ReissueError → Type 0
IsRightFor shares name (Ok share) = Contains shares share × (name_of share ≡ name)
IsRightFor shares name (Err (Undetermined _)) = Unit {0}
IsRightFor shares name (Err (DigestMismatch _)) = ⊥

-- what the refusal of an undetermined share says: the name of the share, and the four counts, each in a byte
abbrev pub too_few_cause : TooFew → Cause
too_few_cause few = cause 66 (256 * few.group + few.member)
    (65536 * (256 * few.members + few.threshold) + (256 * few.others + few.required))

-- what a refusal says
abbrev pub reissue_cause_of : ReissueError → Cause
reissue_cause_of (Undetermined few) = too_few_cause few
reissue_cause_of (DigestMismatch mismatch) = mismatch_cause_of mismatch
