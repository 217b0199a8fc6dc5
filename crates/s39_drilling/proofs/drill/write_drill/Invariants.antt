use Rattle.std.proofs.Common.{◌≡◌, ◌+◌, ◌-◌, ◌*◌, ◌≤◌}
use Rattle.s39_set.specs.Looks.{most_step_looks}
use Rattle.s39_backup.specs.Outcome.{AreParams}
use Rattle.s39_drilling.specs.Watching.{AreSeen}
use Rattle.s39_drilling.proofs.Drills.Drilling.{IsDrilling}
use Rattle.s39_drilling.proofs.Drills.Watching.{IsCounting}
use Rattle.s39_drilling.proofs.drill.write_drill.Given as goal

abbrev pub invariant-loop-outcome : goal.invariant-loop-outcome
invariant-loop-outcome g l = record {
  drilling : IsDrilling g.W.Write.contents l.fn.output l.output l.form l.set l.fn.memo.passphrase l.fn.start l.limit l.quorum l.left l.mismatches;
  some : 1 ≤ l.left;
  counted : l.mismatches + l.left ≤ l.limit;
  looks : l.looks + most_step_looks * l.left ≤ most_step_looks * (l.limit + 1);
  passphrase : l.memo.passphrase ≡ l.fn.memo.passphrase;
  params : AreParams l.set l.memo.params;
  counting : IsCounting g.W.Write.contents l.fn.output l.output l.form l.set l.fn.memo.passphrase l.fn.start l.limit l.quorum l.left;
  seen : AreSeen g.P.Watch.counts (l.limit - l.left) l.fn.watch l.watch;
}

abbrev pub decreases-loop-outcome : goal.decreases-loop-outcome
decreases-loop-outcome g l = l.left
