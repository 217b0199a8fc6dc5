use Rattle.std.proofs.Common.{◌≡◌, ◌-◌, length}
use Rattle.s39_creating.proofs.Runs.Creating.{IsTaking}
use Rattle.s39_creating.proofs.creating.read_up_to.Given as goal

abbrev pub invariant-reads : goal.invariant-reads
invariant-reads g l = IsTaking g.R.Read.remaining l.fn.input l.input l.random.items l.limit × (length l.piece ≡ 4096)

abbrev pub decreases-reads : goal.decreases-reads
decreases-reads g l = l.limit - length l.random.items
