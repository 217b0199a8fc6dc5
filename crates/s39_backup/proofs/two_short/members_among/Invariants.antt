use Rattle.std.proofs.Common.{◌≡◌, take, map}
use Rattle.s39_set.specs.Names.{names_in_group}
use Rattle.s39_backup.proofs.two_short.members_among.Given as goal

abbrev pub invariant-loop-of : goal.invariant-loop-of
invariant-loop-of l = l.members.items ≡ map (λ name. name.1) (names_in_group l.group (take l.of-index l.names))
