use Rattle.std.proofs.Common.{◌∙◌, arith}
use Rattle.s39_field.proofs.Tables.{inverse_by_exponent}
use Rattle.s39_field.proofs.logarithms.inverse.Goals as goal

pub returns : goal.returns
returns c =
    c.power_of_three.ensures
    ∙ inverse_by_exponent c.args.a c.logarithm.result (omega arith) c.requires c.logarithm.ensures.below c.logarithm.ensures.is
