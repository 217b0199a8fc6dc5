use Rattle.std.proofs.Common.{inl, inr, sym, ap₂, ◌∙◌}
use Rattle.s39_field.specs.FieldProduct.{byte_field}
use Rattle.s39_field.proofs.Tables.{product_of_powers, product-zero_left, product-zero_right}
use Rattle.s39_field.proofs.logarithms.product.Goals as goal

pub returns-then-b-eq0 : goal.returns-then-b-eq0
returns-then-b-eq0 c =
    elim c.if-b-eq0.either [
      | inl none ↦ product-zero_left c.args.a c.args.b none
      | inr (some, none) ↦ product-zero_right c.args.a c.args.b none
    ]

pub returns-else-b-eq0 : goal.returns-else-b-eq0
returns-else-b-eq0 c =
    c.power_of_three.ensures
    ∙ sym (product_of_powers c.logarithm.result c.logarithm-else-b-eq0.result)
    ∙ ap₂ byte_field.mul c.logarithm.ensures.is c.logarithm-else-b-eq0.ensures.is
