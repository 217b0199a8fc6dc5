use Rattle.std.proofs.Common.{◌≡◌, take, Ok}
use Rattle.std.specs.List.{enumerate_from}
use Rattle.s39_lists.specs.Each.{each}
use Rattle.s39_backup.specs.Plan.{judged_group}
use Rattle.s39_backup.proofs.plan.check_groups.Given as goal

abbrev pub invariant-loop-place : goal.invariant-loop-place
invariant-loop-place l = each judged_group (take l.place (enumerate_from 0 l.groups)) ≡ Ok (take l.place l.groups)
