-- Quorums: the minimal sets of names that meet the thresholds.
use Rattle.std.specs.Prelude.{◌≡◌, ◌≢◌, ℕ, ◌≤◌, List, [], ◌∷◌, length, map, find, All, Contains, Option, Some, None, IsSomeAnd}
use Rattle.std.specs.Option.{option_map}
use Rattle.std.specs.declared.cmp.Ordering.TheVariants.{Less, Greater}
use Rattle.s39_words.specs.declared.share.ShareFields.{ShareFields}
use Rattle.s39_set.specs.Names.{Names, names_cmp, IsAscending, names_in_group}
use Rattle.s39_set.specs.Groups.{complete_groups}
use Rattle.s39_set.specs.ShareSet.{name_of, is_in_group}

-- the group threshold, in which all shares agree
abbrev pub group_threshold_of : List ShareFields → Option ℕ
group_threshold_of [] = None
group_threshold_of (share ∷ shares) = Some share.group_threshold

-- the member threshold of a group, in which its shares agree
abbrev pub member_threshold_of : List ShareFields → ℕ → Option ℕ
member_threshold_of set group = option_map (λ share. share.member_threshold) (find (is_in_group group) set)

-- these are names of shares of the set, in order
pub record AreAtHand (set : List ShareFields) (names : Names) : Type 0 where
  pub ascending : IsAscending names
  pub at_hand : All (Contains (map name_of set)) names

-- at least group-threshold groups have at least their member threshold of shares among these; in an empty set
-- nothing meets
pub record MeetsThresholds (set : List ShareFields) (names : Names) : Type 0 where
  pub at_hand : AreAtHand set names
  pub groups : IsSomeAnd (group_threshold_of set)
      (λ threshold. threshold ≤ length (complete_groups (member_threshold_of set) names))

-- of lists in order: all of these names are among the others, and the lists differ
abbrev pub IsProperSubset : Names → Names → Type 0
IsProperSubset names others = All (Contains others) names × (names ≢ others)

-- the names meet the thresholds, and no proper subset of them does
pub record IsQuorum (set : List ShareFields) (names : Names) : Type 0 where
  pub meets : MeetsThresholds set names
  pub minimal : (fewer : Names) → IsProperSubset fewer names → ¬ MeetsThresholds set fewer

-- names that come after a given list, or any names where none is given
abbrev pub ComesAfter : Option Names → Names → Type 0
ComesAfter None names = Unit {0}
ComesAfter (Some given) names = names_cmp given names ≡ Less

-- the quorum whose list of names is least of those that come after a given list, or of all
pub record IsFirstQuorumAfter (set : List ShareFields) (given : Option Names) (names : Names) : Type 0 where
  pub quorum : IsQuorum set names
  pub after : ComesAfter given names
  pub least : (other : Names) → IsQuorum set other → ComesAfter given other → names_cmp names other ≢ Greater

-- the quorum whose list of names is least
abbrev pub IsLeastQuorum : List ShareFields → Names → Type 0
IsLeastQuorum set names = IsFirstQuorumAfter set None names

-- no quorum comes after a given list, or there is none at all
abbrev pub HasNoQuorumAfter : List ShareFields → Option Names → Type 0
HasNoQuorumAfter set given = (names : Names) → IsQuorum set names → ¬ ComesAfter given names

-- exactly as many groups as the group threshold are complete, and each group with a name here has exactly as many names as its
-- member threshold
pub record HasJustTheMembers (set : List ShareFields) (names : Names) : Type 0 where
  pub groups : group_threshold_of set ≡ Some (length (complete_groups (member_threshold_of set) names))
  pub members : All (λ name. member_threshold_of set name.0 ≡ Some (length (names_in_group name.0 names))) names

-- names at hand, of exactly as many groups and members as the thresholds require
pub record HasJustTheGroups (set : List ShareFields) (names : Names) : Type 0 where
  pub at_hand : AreAtHand set names
  pub just : HasJustTheMembers set names
