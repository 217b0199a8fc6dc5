use Rattle.std.proofs.Common.{refl}
use Rattle.s39_field.specs.FieldProduct.{product_modulo}
use Rattle.s39_words.proofs.laws.generator_is_a_product.Goals as goal

pub returns : goal.returns
unfolding product_modulo
returns c = refl
