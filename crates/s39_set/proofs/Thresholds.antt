-- Names that just meet thresholds.
use Rattle.std.specs.Prelude.{◌≡◌, ℕ, length, Option, Some, All}
use Rattle.std.specs.List.{Contains}
use Rattle.s39_set.specs.Names.{Names, IsAscending, names_in_group}
use Rattle.s39_set.specs.Groups.{complete_groups}

-- these names of those at hand are complete in just G groups, with just the members that each asks, and no others
pub record HasJust (T : ℕ → Option ℕ) (N : Names) (G : ℕ) (names : Names) : Type 0 where
  pub ascending : IsAscending names
  pub at_hand : All (Contains N) names
  pub groups : G ≡ length (complete_groups T names)
  pub members : All (λ name. T name.0 ≡ Some (length (names_in_group name.0 names))) names
