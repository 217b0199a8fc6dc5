use Rattle.std.proofs.Common.{◌≡◌, ◌+◌, ◌-◌, ◌^◌, sym, ap, ap₂, ◌∙◌, subst, arith}
use Rattle.s39_field.specs.FieldProduct.{Modulus, HasDegree, product_modulo, power_modulo}
use Rattle.s39_field.specs.Theory.Powers.{next_square, next_product, power-first, power-none, one-lt}
use Rattle.s39_field.proofs.modulus.Modulus.inverse.Goals as goal

pub loop-init : goal.loop-init
loop-init c =
    let is = subst HasDegree c.self.view_is c.self.invariant.0 in
    record {
      square_element = c.requires;
      power_element = one-lt c.args.self is;
      square_is = sym (power-first c.args.self is c.args.a c.requires);
      power_is = sym (power-none c.args.self c.args.a);
    }

pub loop-preserved : goal.loop-preserved
loop-preserved c =
    let m = c.args.self in
    let is = subst HasDegree c.self.view_is c.self.invariant.0 in
    let k = c.loop.counter in
    let place : k + 1 - 1 ≡ k = omega arith in
    let square =
    c.product-square.ensures.product
    ∙ ap₂ (product_modulo m) c.loop.invariant.square_is c.loop.invariant.square_is
    ∙ next_square m is c.args.a k (omega arith) in
    record {
      square_element = c.product-square.ensures.element;
      power_element = c.product-power.ensures.element;
      square_is = square ∙ ap (λ i. power_modulo m c.args.a (2 ^ i)) (sym place);
      power_is = c.product-power.ensures.product ∙ ap₂ (product_modulo m) c.loop.invariant.power_is square ∙ next_product m is c.args.a k (omega arith);
    }

pub returns-clause-power : goal.returns-clause-power
returns-clause-power c =
    let m = c.args.self in
    let degree : c.self.inside.degree ≡ m.degree = ap (λ (x : Modulus). x.degree) c.self.view_is in
    let positive = c.self.invariant.0.positive in
    let end : c.loop.counter ≡ m.degree = omega arith in
    c.loop.invariant.power_is ∙ ap (λ i. power_modulo m c.args.a (2 ^ i - 2)) end
