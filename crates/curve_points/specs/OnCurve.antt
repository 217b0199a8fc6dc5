-- Points of the curve: infinity, and those whose coordinates fit SEC 2's equation.
use Rattle.std.specs.Prelude.{◌≡◌, ◌<◌}
use Rattle.curve_field.specs.Field.{prime, ◌⊕◌, ◌⊗◌}
use Rattle.curve_points.specs.declared.point.Affine.{Affine}
use Rattle.curve_points.specs.declared.point.Point.{Point}
use Rattle.curve_points.specs.declared.point.Point.TheVariants.{Infinity, Finite}

-- y^2 = x^3 + 7
pub record IsOnCurve (a : Affine) : Type 0 where
  pub x_below : a.x < prime
  pub y_below : a.y < prime
  pub equation : a.y ⊗ a.y ≡ (a.x ⊗ (a.x ⊗ a.x)) ⊕ 7

abbrev pub IsCurvePoint : Point → Type 0
IsCurvePoint Infinity = Unit {0}
IsCurvePoint (Finite a) = IsOnCurve a
