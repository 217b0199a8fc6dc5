use Rattle.s39_field.proofs.Strings.{strings_have_a_value, strings_have_one_value}
use Rattle.s39_field.proofs.laws.one_byte_string.Goals as goal

pub returns : goal.returns
returns c = record { some = strings_have_a_value; one = strings_have_one_value }
