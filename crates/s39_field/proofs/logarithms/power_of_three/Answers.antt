use Rattle.std.proofs.Common.{◌∙◌}
use Rattle.s39_field.proofs.Tables.{power_at}
use Rattle.s39_field.proofs.logarithms.power_of_three.Goals as goal

pub returns : goal.returns
returns c = power_at c.reduced.result 0 c.reduced.ensures.below ∙ c.reduced.ensures.same
