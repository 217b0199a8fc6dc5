use Rattle.std.proofs.Common.{ℕ, ◌<◌, ◌≤◌}
use Rattle.std.specs.Prelude.{slice_index, slice_index_or}
use Rattle.s39_words.specs.declared.prefix.WordRange.{WordRange}
use Rattle.s39_repair.proofs.candidate.are_in_ranges.Given as goal

abbrev pub invariant-loop-i : goal.invariant-loop-i
invariant-loop-i l =
    (k : ℕ) (d : WordRange) → k < l.i
    → ((slice_index_or l.ranges k d).first ≤ slice_index l.words k) × (slice_index l.words k < (slice_index_or l.ranges k d).end)
