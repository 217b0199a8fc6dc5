use Rattle.std.proofs.Common.{◌≡◌, sym, ap, ap₂, ◌∙◌}
use Rattle.std.specs.Option.{option_map_or}
use Rattle.s39_field.specs.FieldProduct.{byte_field}
use Rattle.s39_field.specs.Polynomial.{power}
use Rattle.s39_field.proofs.Tables.{product_of_powers, product-zero_left, product-zero_right}
use Rattle.s39_field.proofs.logarithms.LogProduct.times.Goals.{in_default-via-in-Some+else-factor-ne0, in_default-via-in_default}
use Rattle.s39_field.proofs.logarithms.LogProduct.times.Goals as goal

pub returns-in-Some : goal.returns-in-Some
returns-in-Some c =
    let self_is : power byte_field 3 c.in-Some.i ≡ c.args.self =
    ap (λ e. option_map_or (power byte_field 3) e 0) (sym c.in-Some.is) ∙ c.self.view_is in
    c.reduced.ensures.same ∙ sym (product_of_powers c.in-Some.i c.logarithm.result) ∙ ap₂ byte_field.mul self_is c.logarithm.ensures.is

pub returns-in_default : goal.returns-in_default
returns-in_default c =
    elim c.in_default.branch [
      | in_default-via-in-Some+else-factor-ne0 w ↦ product-zero_right c.args.self c.args.factor w.if-factor-ne0.false
      | in_default-via-in_default w ↦
          product-zero_left c.args.self c.args.factor
          (sym c.self.view_is ∙ ap (λ e. option_map_or (power byte_field 3) e 0) w.in_default.is)
    ]
