use Rattle.curve_points.proofs.Roots.{lifted, only}
use Rattle.curve_points.proofs.laws.points_are_lifted.Goals as goal

pub returns-clause-lifted : goal.returns-clause-lifted
returns-clause-lifted c = lifted

pub returns-clause-only : goal.returns-clause-only
returns-clause-only c x a h = let is = only x a h in (is.on_curve, is.same_x, is.even)
