use Rattle.std.proofs.Common.{◌<◌, [], take, remove, bit_xor, sym, ap, ap₂, ◌∙◌, subst, arith}
use Rattle.std.proofs.lemmas.List.{take_all}
use Rattle.std.proofs.lemmas.List.Elements.{All-more, All-same}
use Rattle.s39_field.specs.FieldProduct.{byte_field, byte_modulus, product_modulo}
use Rattle.s39_field.specs.Interpolation.{differences}
use Rattle.s39_field.specs.Theory.Powers.{byte_field_is_field}
use Rattle.s39_field.proofs.Differences.{remove-past, differences-more, differences-own}
use Rattle.s39_field.proofs.interpolation.product_of_differences.Goals as goal
use Rattle.s39_field.proofs.interpolation.product_of_differences.Goals.{then-i-except, else-i-except}

pub loop-i-init : goal.loop-i-init
loop-i-init c = record {
  product_is = c.one-product.ensures ∙ ap (differences byte_field c.args.x) (sym (remove-past [] c.args.except (omega arith)));
  elements = λ k d h. absurd (omega arith);
}

pub loop-i-preserved : goal.loop-i-preserved
loop-i-preserved c =
    let x = c.args.x in
    let places = c.args.places.now in
    let i = c.loop-i.i in
    let place = c.index-places-i.result in
    let below = c.loop-i-test.true in
    record {
      product_is = elim c.if-i-except.branch [
        | then-i-except w ↦
            w.product-is
            ∙ w.times-product.ensures
            ∙ ap₂ (product_modulo byte_modulus) c.loop-i.invariant.product_is
            (w.from.ensures ∙ c.add-difference.ensures.sum ∙ ap (bit_xor x) c.index-places-i.is)
            ∙ sym (differences-more byte_field byte_field_is_field x places i c.args.except place below w.if-i-except.true)
        | else-i-except w ↦
            w.product-is
            ∙ c.loop-i.invariant.product_is
            ∙ sym (differences-own byte_field byte_field_is_field x places i c.args.except place below w.if-i-except.false)
      ];
      elements = All-more (λ p. p < 256) places i place below c.loop-i.invariant.elements
          (subst (λ p. p < 256) c.index-places-i.is c.add-difference.ensures.other_element);
    }

pub returns : goal.returns
returns c =
    let places = c.args.places.now in
    let all = take_all c.loop-i.i places c.loop-i-test.false in
    record {
      product = c.from-2.ensures ∙ c.value.ensures ∙ c.loop-i.invariant.product_is ∙ ap (λ l. differences byte_field c.args.x (remove l c.args.except)) all;
      elements = All-same (λ p. p < 256) places (take c.loop-i.i places) (sym all) c.loop-i.invariant.elements;
    }
