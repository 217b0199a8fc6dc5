use Rattle.curve_points.proofs.Multiples.{any_bits}
use Rattle.curve_points.proofs.laws.zeros_in_front_change_nothing.Goals as goal

pub returns : goal.returns
returns c = any_bits
