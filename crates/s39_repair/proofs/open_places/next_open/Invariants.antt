use Rattle.std.proofs.Common.{◌≡◌, ℕ, ◌<◌, ◌≤◌, ◌-◌, ◌⊎◌, false, length, drop}
use Rattle.std.specs.Prelude.{count_by, slice_index_or}
use Rattle.s39_words.specs.declared.prefix.WordRange.{WordRange}
use Rattle.s39_repair.specs.Marks.{is_open_range}
use Rattle.s39_repair.proofs.open_places.next_open.Given as goal

abbrev pub invariant-loop-i : goal.invariant-loop-i
invariant-loop-i l = record {
  from : l.from ≤ l.i;
  near : (l.i ≤ length l.ranges) ⊎ (l.i ≡ l.from);
  closed : (p : ℕ) (d : WordRange) → l.from ≤ p → p < l.i → p < length l.ranges → is_open_range (slice_index_or l.ranges p d) ≡ false;
  same : count_by is_open_range (drop l.from l.ranges) ≡ count_by is_open_range (drop l.i l.ranges);
}

abbrev pub decreases-loop-i : goal.decreases-loop-i
decreases-loop-i l = length l.ranges - l.i
