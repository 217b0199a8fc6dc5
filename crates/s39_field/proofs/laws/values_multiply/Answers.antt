use Rattle.s39_field.proofs.Products.{values_multiply, multiples_keep_roots, reversed_values_multiply, reversed_multiples_keep_roots}
use Rattle.s39_field.proofs.laws.values_multiply.Goals as goal

pub returns : goal.returns
returns g c = record {
  values = values_multiply g.F.Field.operations g.met.F.Field.is_field;
  reversed_values = reversed_values_multiply g.F.Field.operations g.met.F.Field.is_field;
  roots = multiples_keep_roots g.F.Field.operations g.met.F.Field.is_field;
  reversed_roots = reversed_multiples_keep_roots g.F.Field.operations g.met.F.Field.is_field;
}
