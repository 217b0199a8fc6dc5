use Rattle.std.proofs.Common.{◌≡◌, ℕ, ◌+◌, ◌*◌, ◌%◌, ◌<◌, List, length, get_or}
use Rattle.s39_tests_engine.proofs.split.combined.Given as goal

abbrev pub invariant-loop-k : goal.invariant-loop-k
invariant-loop-k l = record {
  number : length l.chosen ≡ l.k;
  places : (j : ℕ) (d : ℕ × List ℕ) → j < l.k → (get_or l.chosen j d).0 ≡ (l.start + l.stride * j) % 16;
  rows : (j : ℕ) (d : ℕ × List ℕ) → j < l.k → length (get_or l.chosen j d).1 ≡ 16;
}
