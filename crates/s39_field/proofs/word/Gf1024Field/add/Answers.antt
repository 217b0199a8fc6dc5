use Rattle.std.proofs.lemmas.Nat.{xor_lt}
use Rattle.s39_field.proofs.word.Gf1024Field.add.Goals as goal

pub invariant_of-result : goal.invariant_of-result
invariant_of-result c = xor_lt 10 c.self.inside.0 c.other.inside.0 c.self.invariant c.other.invariant
