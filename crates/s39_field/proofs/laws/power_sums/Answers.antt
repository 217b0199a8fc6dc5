use Rattle.s39_field.proofs.PowerSums.{power_sums_determine_values}
use Rattle.s39_field.proofs.laws.power_sums.Goals as goal

pub returns : goal.returns
returns g c = power_sums_determine_values g.F.Field.operations g.met.F.Field.is_field
