use Rattle.s39_field.proofs.Orders.{power_of_two-element, power_of_two-nonzero, powers_of_two_are_distinct}
use Rattle.s39_field.proofs.laws.powers_of_two.Goals as goal

pub returns : goal.returns
returns c = record {
  distinct = powers_of_two_are_distinct;
  elements = power_of_two-element;
  nonzero = power_of_two-nonzero;
}
