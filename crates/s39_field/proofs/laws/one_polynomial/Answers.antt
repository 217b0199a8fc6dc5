use Rattle.s39_field.proofs.Roots.{places_determine_coefficients, places_determine_values, points_have_one_value}
use Rattle.s39_field.proofs.laws.one_polynomial.Goals as goal

pub returns : goal.returns
returns g c = record {
  coefficients = places_determine_coefficients g.F.Field.operations g.met.F.Field.is_field;
  places = places_determine_values g.F.Field.operations g.met.F.Field.is_field;
  points = points_have_one_value g.F.Field.operations g.met.F.Field.is_field;
}
