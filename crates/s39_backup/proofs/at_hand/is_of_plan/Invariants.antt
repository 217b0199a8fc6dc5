use Rattle.std.proofs.Common.{ℕ, ◌/◌, ◌%◌, ◌<◌, find}
use Rattle.std.specs.Prelude.{IfSome}
use Rattle.s39_set.specs.Names.{most_members}
use Rattle.s39_set.specs.ShareSet.{has_name}
use Rattle.s39_backup.specs.Reissue.{IsOfPlan}
use Rattle.s39_backup.proofs.at_hand.is_of_plan.Given as goal

abbrev pub invariant-loop-place : goal.invariant-loop-place
invariant-loop-place l = (place : ℕ) → place < l.place
    → IfSome (find (has_name (place / most_members) (place % most_members)) l.set) (IsOfPlan l.plan.group_threshold l.plan.groups.items)
