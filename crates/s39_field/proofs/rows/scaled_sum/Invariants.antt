use Rattle.std.proofs.Common.{◌≡◌, ℕ, ◌<◌, ◌≤◌, get_or}
use Rattle.s39_field.specs.FieldProduct.{byte_field}
use Rattle.s39_field.proofs.rows.scaled_sum.Given as goal

-- the bytes below k are sums, and the others are as they were
abbrev pub invariant-loop-k : goal.invariant-loop-k
invariant-loop-k l = record {
  summed : (j : ℕ) → j < l.k → get_or l.acc j 0 ≡ byte_field.add (get_or l.fn.acc j 0) (byte_field.mul l.w (get_or l.row j 0));
  rest : (j : ℕ) → l.k ≤ j → get_or l.acc j 0 ≡ get_or l.fn.acc j 0;
}
