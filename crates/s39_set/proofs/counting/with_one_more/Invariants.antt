use Rattle.std.proofs.Common.{◌≡◌, ℕ, ◌≤◌, ◌<◌, length, get_or}
use Rattle.s39_set.specs.Counting.{most_counts}
use Rattle.s39_set.proofs.Ways.{with_part}
use Rattle.s39_set.proofs.counting.with_one_more.Given as goal

abbrev pub invariant-loop-chosen : goal.invariant-loop-chosen
invariant-loop-chosen l = record {
  long : length l.more ≡ most_counts;
  none : get_or l.more 0 0 ≡ get_or l.table 0 0;
  done : (k : ℕ) → 1 ≤ k → k < l.chosen → get_or l.more k 0 ≡ with_part l.table l.uses k;
}
