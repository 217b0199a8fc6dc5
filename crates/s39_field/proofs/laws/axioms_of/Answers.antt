use Rattle.s39_field.proofs.laws.axioms_of.Goals as goal

pub returns : goal.returns
returns g c = g.met.F.Field.is_field
