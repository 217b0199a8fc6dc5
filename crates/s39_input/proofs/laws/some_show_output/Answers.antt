use Rattle.std.proofs.Common.{refl}
use Rattle.s39_input.specs.Show.{show_output}
use Rattle.s39_input.proofs.laws.some_show_output.Goals as goal

pub returns : goal.returns
returns c = λ input. ((show_output input).0, (show_output input).1, refl)
