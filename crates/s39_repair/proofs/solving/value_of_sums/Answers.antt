use Rattle.std.proofs.Common.{sym, ap, ap₂, ◌∙◌}
use Rattle.s39_field.specs.FieldProduct.{word_field}
use Rattle.s39_field.specs.Theory.Powers.{word_field_is_field}
use Rattle.s39_repair.proofs.ThreePlaces.{denominator-nonzero}
use Rattle.s39_repair.proofs.solving.value_of_sums.Goals as goal

pub inv-requires : goal.inv-requires
inv-requires c = λ e.
    denominator-nonzero word_field word_field_is_field c.args.x c.args.y c.args.z c.add.ensures.self_element c.add.ensures.other_element
    c.add-2.ensures.other_element c.requires.nonzero c.requires.other c.requires.another
    (sym (c.mul-product.ensures.product ∙ ap (λ p. word_field.mul p c.args.x)
    (c.mul-3.ensures.product ∙ ap₂ word_field.mul c.add.ensures.sum c.add-2.ensures.sum)) ∙ e)
