use Rattle.std.proofs.Common.{◌≡◌, take}
use Rattle.s39_backup.specs.Combination.{member_shares}
use Rattle.s39_backup.proofs.combination.member_shares.Given as goal

abbrev pub invariant-loop-of : goal.invariant-loop-of
invariant-loop-of l = l.shares ≡ member_shares l.set (take l.of-index l.names) l.group
