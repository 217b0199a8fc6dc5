use Rattle.std.proofs.Common.{◌≡◌, List, ◌++◌}
use Rattle.s39_field.specs.Polynomial.{value_at}
use Rattle.s39_field.proofs.polynomial.eval.Given as goal

-- the value so far is that of the coefficients that were taken, the last ones
abbrev pub invariant-loop-c : goal.invariant-loop-c
invariant-loop-c g l = (taken : List _) × (l.coeffs ≡ l.c-iterator.iter.rest.now ++ taken) × (l.value ≡ value_at g.F.Field.operations taken l.x)
