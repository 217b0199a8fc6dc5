use Rattle.std.proofs.Common.{◌<◌, ◌^◌, sym, ap, ◌∙◌, subst}
use Rattle.s39_field.specs.FieldProduct.{HasDegree, product_modulo}
use Rattle.s39_field.specs.Theory.Residues.{product_modulo-lt}
use Rattle.s39_field.proofs.Shifts.{shifted_under, shifted_over}
use Rattle.s39_field.proofs.modulus.Modulus.doubled.Goals as goal

pub returns-then-double-self-eq0-clause-product : goal.returns-then-double-self-eq0-clause-product
returns-then-double-self-eq0-clause-product c =
    let low = rw (← c.self.view_is) at c.requires in
    shifted_under _ c.self.invariant.0 c.self.invariant.1 c.args.a low c.if-double-self-eq0.true ∙ ap (λ m. product_modulo m c.args.a 2) c.self.view_is

pub returns-else-double-self-eq0-clause-product : goal.returns-else-double-self-eq0-clause-product
returns-else-double-self-eq0-clause-product c =
    let low = rw (← c.self.view_is) at c.requires in
    shifted_over _ c.self.invariant.0 c.self.invariant.1 c.args.a low c.if-double-self-eq0.false ∙ ap (λ m. product_modulo m c.args.a 2) c.self.view_is

pub returns-else-double-self-eq0-clause-element : goal.returns-else-double-self-eq0-clause-element
returns-else-double-self-eq0-clause-element c =
    subst (λ x. x < 2 ^ c.args.self.degree) (sym (returns-else-double-self-eq0-clause-product c))
    (product_modulo-lt c.args.self (subst HasDegree c.self.view_is c.self.invariant.0) c.args.a 2)
