-- Names that are two short of the thresholds of a plan.
use Rattle.std.specs.Prelude.{ℕ, ◌-◌, ◌≤◌, List, Bool, ◌&&◌, length, map, filter, nat_lt, All}
use Rattle.std.specs.List.{enumerate_from}
use Rattle.s39_set.specs.Names.{Names, names_in_group}
use Rattle.s39_backup.specs.declared.plan.Members.{Members}
use Rattle.s39_backup.specs.Plan.{IsNameOfPlan}

-- a group is held if the names have at least one of it, and more than its member threshold less two
abbrev pub is_held : Names → ℕ × Members → Bool
is_held names group =
    let count = length (names_in_group group.0 names) in
    nat_lt 0 count && nat_lt (group.1.threshold - 2) count

-- the indices of the groups that are held
abbrev pub held_groups : Names → List Members → List ℕ
held_groups names groups = map (λ group. group.0) (filter (is_held names) (enumerate_from 0 groups))

-- Names of a plan's shares by which at most the group threshold less two groups are held, or none if that threshold
-- is 1.
pub record IsTwoShort (group_threshold : ℕ) (groups : List Members) (names : Names) : Type 0 where
  pub of_plan : All (IsNameOfPlan groups) names
  pub few : length (held_groups names groups) ≤ group_threshold - 2
