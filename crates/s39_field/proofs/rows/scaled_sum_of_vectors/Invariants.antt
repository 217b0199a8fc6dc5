use Rattle.std.proofs.Common.{◌≡◌, ℕ, ◌-◌, ◌<◌, ◌≤◌, length, get_or}
use Rattle.s39_field.specs.FieldProduct.{byte_field}
use Rattle.s39_field.proofs.rows.scaled_sum_of_vectors.Given as goal

-- the bytes below done are sums, and the others are as they were
abbrev pub invariant-loop-acc : goal.invariant-loop-acc
invariant-loop-acc l = record {
  within : l.done ≤ length l.fn.acc;
  summed : (j : ℕ) → j < l.done → get_or l.acc j 0 ≡ byte_field.add (get_or l.fn.acc j 0) (byte_field.mul l.fn.w (get_or l.fn.row j 0));
  rest : (j : ℕ) → l.done ≤ j → get_or l.acc j 0 ≡ get_or l.fn.acc j 0;
}

abbrev pub decreases-loop-acc : goal.decreases-loop-acc
decreases-loop-acc l = length l.acc - l.done
