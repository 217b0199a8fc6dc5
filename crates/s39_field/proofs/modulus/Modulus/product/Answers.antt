use Rattle.std.proofs.Common.{◌<◌, ◌/◌, ◌^◌, sym, ap, ◌∙◌, subst}
use Rattle.std.proofs.lemmas.Nat.{xor_lt}
use Rattle.s39_field.specs.BinaryPolynomial.{binary_sum}
use Rattle.s39_field.specs.FieldProduct.{product_modulo}
use Rattle.s39_field.specs.Theory.BinaryPolynomials.{sum-zero_right}
use Rattle.s39_field.specs.Theory.Residues.{product_modulo-zero}
use Rattle.s39_field.proofs.Shifts.{turn_taken, turn_passed}
use Rattle.s39_field.proofs.modulus.Modulus.product.Goals as goal
use Rattle.s39_field.proofs.modulus.Modulus.product.Goals.{then-rest-eq1, else-rest-eq1}

pub loop-rest-preserved : goal.loop-rest-preserved
loop-rest-preserved c =
    let m = c.args.self in
    let is = c.doubled-shifted.ensures.modulus in
    let before = c.loop-rest.invariant in
    let sum = c.loop-rest.sum in
    let a = c.loop-rest.shifted in
    let b = c.loop-rest.rest in
    let double = c.doubled-shifted.result in
    let rest = product_modulo m double (b / 2) in
    record {
      shifted_element = c.doubled-shifted.ensures.element;
      sum_element = elim c.if-rest-eq1.branch [
        | then-rest-eq1 w ↦ subst (λ x. x < 2 ^ m.degree) (sym w.sum-is) (xor_lt m.degree sum a before.sum_element before.shifted_element)
        | else-rest-eq1 w ↦ subst (λ x. x < 2 ^ m.degree) (sym w.sum-is) before.sum_element
      ];
      together = elim c.if-rest-eq1.branch [
        | then-rest-eq1 w ↦
            ap (λ x. binary_sum x rest) w.sum-is
            ∙ turn_taken m is sum a b double before.shifted_element c.doubled-shifted.ensures.product w.if-rest-eq1.true
            ∙ before.together
        | else-rest-eq1 w ↦
            ap (λ x. binary_sum x rest) w.sum-is
            ∙ turn_passed m is sum a b double c.doubled-shifted.ensures.product w.if-rest-eq1.false
            ∙ before.together
      ];
    }

pub returns-clause-product : goal.returns-clause-product
returns-clause-product c =
    let m = c.args.self in
    let none = product_modulo-zero m c.loop-rest.shifted in
    sym (sum-zero_right c.loop-rest.sum)
    ∙ ap (binary_sum c.loop-rest.sum) (sym (ap (product_modulo m c.loop-rest.shifted) c.loop-rest-test.false ∙ none))
    ∙ c.loop-rest.invariant.together
