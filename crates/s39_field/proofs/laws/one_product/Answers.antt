use Rattle.s39_field.specs.FieldProduct.{byte_modulus, word_modulus}
use Rattle.s39_field.specs.Theory.Residues.{is_product_modulo, product_unique}
use Rattle.s39_field.specs.Theory.Powers.{byte_degree, word_degree}
use Rattle.s39_field.proofs.laws.one_product.Goals as goal

pub returns : goal.returns
returns c = record {
  of_bytes = is_product_modulo byte_modulus byte_degree;
  one_of_bytes = product_unique byte_modulus byte_degree;
  of_words = is_product_modulo word_modulus word_degree;
  one_of_words = product_unique word_modulus word_degree;
}
