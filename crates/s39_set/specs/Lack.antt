-- Why a set has no quorum.
use Rattle.std.specs.Prelude.{◌≡◌, ℕ, List, [], length, map, Some}
use Rattle.s39_refusal.specs.declared.cause.Cause.{Cause}
use Rattle.s39_refusal.specs.Causes.{cause}
use Rattle.s39_words.specs.declared.share.ShareFields.{ShareFields}
use Rattle.s39_set.specs.Names.{Names}
use Rattle.s39_set.specs.Groups.{complete_groups}
use Rattle.s39_set.specs.ShareSet.{name_of}
use Rattle.s39_set.specs.Quorums.{group_threshold_of, member_threshold_of, MeetsThresholds}
use Rattle.s39_set.specs.declared.set_lack.SetLack.{SetLack}
use Rattle.s39_set.specs.declared.set_lack.SetLack.TheVariants.{NoShares, Incomplete}

-- the set has shares, this number of its groups are complete, this is its group threshold, and no names meet the
-- thresholds
pub record IsIncomplete (set : List ShareFields) (complete required : ℕ) : Type 0 where
  pub complete_is : complete ≡ length (complete_groups (member_threshold_of set) (map name_of set))
  pub required_is : group_threshold_of set ≡ Some required
  pub none_meet : (names : Names) → ¬ MeetsThresholds set names

-- the set has no quorum for this cause
abbrev pub IsLack : List ShareFields → SetLack → Type 0
IsLack set NoShares = set ≡ []
IsLack set (Incomplete complete required) = IsIncomplete set complete required

-- what a refusal says
abbrev pub cause_of : SetLack → Cause
cause_of NoShares = cause 29 0 0
cause_of (Incomplete complete required) = cause 30 complete required
