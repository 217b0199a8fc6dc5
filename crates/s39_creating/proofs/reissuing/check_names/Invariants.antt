use Rattle.std.proofs.Common.{◌≡◌, take, None}
use Rattle.s39_creating.specs.Reissue.{first_other}
use Rattle.s39_creating.proofs.reissuing.check_names.Given as goal

abbrev pub invariant-loop-group : goal.invariant-loop-group
invariant-loop-group l = first_other l.plan.groups.items (take l.group-index l.names) ≡ None
