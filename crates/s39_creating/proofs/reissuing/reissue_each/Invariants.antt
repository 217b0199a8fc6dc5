use Rattle.std.proofs.Common.{◌≡◌, take, Ok}
use Rattle.s39_lists.specs.Each.{each}
use Rattle.s39_creating.specs.Reissue.{given}
use Rattle.s39_creating.proofs.reissuing.reissue_each.Given as goal

abbrev pub invariant-loop-group : goal.invariant-loop-group
invariant-loop-group l = each (given l.set l.plan.group_threshold l.plan.groups.items) (take l.group-index l.names) ≡ Ok l.shares
