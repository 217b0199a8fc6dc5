use Rattle.std.proofs.Common.{◌≡◌, ◌≢◌, ◌==◌, true, false, bit_xor, remove, sym, ap, ap₂, ◌∙◌}
use Rattle.s39_field.specs.FieldProduct.{byte_field, byte_modulus, product_modulo}
use Rattle.s39_field.specs.Theory.Powers.{byte_field_is_field}
use Rattle.s39_field.proofs.Differences.{differences-divided, bytes-differences}
use Rattle.s39_field.proofs.interpolation.product_without.Goals as goal

pub returns : goal.returns
returns c =
    let x = c.args.x in
    let places = c.args.places.now in
    let own = c.add-own.result in
    let nonzero : own ≢ 0 =
    λ e.
    let clash : true ≡ false = ap (λ o. o == 0) (sym e) ∙ sym c.eq.ensures ∙ c.if-eq.false in
    absurd (cc) in
    c.mul.ensures.product
    ∙ ap₂ (product_modulo byte_modulus) c.requires.whole c.inv.ensures.inverse
    ∙ differences-divided byte_field byte_field_is_field x places c.args.except c.index-places-except.result own c.requires.within
    (c.add-own.ensures.sum ∙ ap (bit_xor x) c.index-places-except.is)
    c.inv.ensures.self_element nonzero (bytes-differences x (remove places c.args.except))
