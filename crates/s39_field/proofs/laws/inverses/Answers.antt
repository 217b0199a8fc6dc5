use Rattle.s39_field.specs.Theory.Powers.{byte_field_is_field, word_field_is_field}
use Rattle.s39_field.proofs.laws.inverses.Goals as goal

pub returns : goal.returns
returns c = record { of_bytes = byte_field_is_field.mul_inverse; of_words = word_field_is_field.mul_inverse }
