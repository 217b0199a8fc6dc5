use Rattle.curve_points.proofs.OnCurve.{sum_on, multiple_on, public_on}
use Rattle.curve_points.proofs.laws.points_stay_on_the_curve.Goals as goal

pub returns-clause-sums : goal.returns-clause-sums
returns-clause-sums c = sum_on

pub returns-clause-multiples : goal.returns-clause-multiples
returns-clause-multiples c = multiple_on

pub returns-clause-public_keys : goal.returns-clause-public_keys
returns-clause-public_keys c = public_on
