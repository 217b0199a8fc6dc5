use Rattle.std.proofs.Common.{ap₂, ◌∙◌}
use Rattle.s39_field.specs.FieldProduct.{word_field}
use Rattle.s39_repair.proofs.LostWords.{next_locator}
use Rattle.s39_repair.proofs.wrong_word.Search.step.Goals as goal

pub returns-clause-at : goal.returns-clause-at
returns-clause-at c = λ words place at. record {
  first = at.first;
  second = at.second;
  third = at.third;
  locator_is = c.mul.ensures.product ∙ ap₂ word_field.mul at.locator_is c.element.ensures ∙ next_locator c.args.self.extendable place;
}
