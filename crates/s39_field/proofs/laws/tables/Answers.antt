use Rattle.s39_field.proofs.Tables.{length-powers, length-logarithms, power_at, logarithm_of_power}
use Rattle.s39_field.proofs.laws.tables.Goals as goal

pub returns : goal.returns
returns c = record {
  powers = λ i. power_at i 0;
  logarithms = logarithm_of_power;
  lengths = (length-powers, length-logarithms);
}
