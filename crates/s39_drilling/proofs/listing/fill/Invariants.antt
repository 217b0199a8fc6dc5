use Rattle.std.proofs.Common.{◌≡◌, ◌+◌, ◌-◌, ◌*◌, ◌≤◌}
use Rattle.s39_set.specs.Looks.{most_step_looks}
use Rattle.s39_backup.specs.Outcome.{AreParams}
use Rattle.s39_drilling.specs.Slices.{IsFilling}
use Rattle.s39_drilling.proofs.listing.fill.Given as goal

abbrev pub invariant-loop-left : goal.invariant-loop-left
invariant-loop-left l = record {
  filling : IsFilling l.fn.form l.set l.fn.memo.passphrase l.fn.start (l.limit - l.left) l.fn.text l.text l.last.items l.written l.next l.mismatches;
  some : l.left + 1 ≤ l.limit;
  counted : l.mismatches + l.left ≤ l.limit;
  looks : l.looks + most_step_looks * l.left ≤ most_step_looks * (l.limit + 1);
  passphrase : l.memo.passphrase ≡ l.fn.memo.passphrase;
  params : AreParams l.set l.memo.params;
}

abbrev pub decreases-loop-left : goal.decreases-loop-left
decreases-loop-left l = l.left
