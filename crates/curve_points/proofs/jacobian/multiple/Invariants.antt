use Rattle.std.proofs.Common.{◌≡◌, ◌*◌, ◌^◌, ◌/◌, ◌%◌}
use Rattle.curve_field.specs.Limbs.{value}
use Rattle.curve_points.specs.declared.point.Point.TheVariants.{Finite}
use Rattle.curve_points.specs.Multiples.{multiple}
use Rattle.curve_points.specs.Jacobian.{IsJacobian}
use Rattle.curve_points.proofs.jacobian.multiple.Given as goal

abbrev pub invariant-loop-n : goal.invariant-loop-n
invariant-loop-n l = record {
  rest : value l.rest ≡ (l.fn.scalar * 2 ^ l.n) % 2 ^ 256;
  total : IsJacobian l.total.x l.total.y l.total.z (multiple l.n (l.fn.scalar * 2 ^ l.n / 2 ^ 256) (Finite l.point));
}
