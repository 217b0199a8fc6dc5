use Rattle.std.proofs.Common.{◌≡◌, ◌-◌, ◌++◌, length, take}
use Rattle.s39_backup.specs.Reissuing.{members_below}
use Rattle.s39_backup.proofs.at_hand.push_least.Given as goal

abbrev pub invariant-loop-member : goal.invariant-loop-member
invariant-loop-member l = l.points ≡ l.initial.points ++ take (l.threshold - length l.initial.points) (members_below l.set l.group l.member)
