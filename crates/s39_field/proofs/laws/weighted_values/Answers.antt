use Rattle.s39_field.proofs.LagrangeWeights.{weights_interpolate}
use Rattle.s39_field.proofs.laws.weighted_values.Goals as goal

pub returns : goal.returns
returns g c = weights_interpolate g.F.Field.operations g.met.F.Field.is_field
