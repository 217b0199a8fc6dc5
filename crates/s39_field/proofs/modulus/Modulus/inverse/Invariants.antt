use Rattle.std.proofs.Common.{◌≡◌, ◌-◌, ◌<◌, ◌^◌}
use Rattle.s39_field.specs.FieldProduct.{power_modulo}
use Rattle.s39_field.proofs.modulus.Modulus.inverse.Given as goal

-- the last square, and the product of the squares so far
abbrev pub invariant-loop : goal.invariant-loop
invariant-loop l = record {
  square_element : l.square < 2 ^ l.self.degree;
  power_element : l.power < 2 ^ l.self.degree;
  square_is : l.square ≡ power_modulo l.self l.a (2 ^ (l.counter - 1));
  power_is : l.power ≡ power_modulo l.self l.a (2 ^ l.counter - 2);
}
