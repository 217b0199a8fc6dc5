use Rattle.std.proofs.Common.{◌≡◌, sym, subst, rules}
use Rattle.s39_field.specs.FieldProduct.{IsProduct, product_modulo, byte_modulus}
use Rattle.s39_field.specs.Theory.Residues.{is_product_modulo}
use Rattle.s39_field.specs.Theory.Powers.{byte_degree}
use Rattle.s39_field.proofs.byte.Gf256Field.mul.Goals as goal

pub returns-clause-is_product : goal.returns-clause-is_product
returns-clause-is_product c =
    let is : c.product.result ≡ product_modulo byte_modulus c.args.self c.args.other = search rules in
    subst (IsProduct byte_modulus c.args.self c.args.other) (sym is) (is_product_modulo byte_modulus byte_degree c.args.self c.args.other)
