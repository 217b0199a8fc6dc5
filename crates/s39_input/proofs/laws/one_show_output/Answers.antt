use Rattle.std.proofs.Common.{sym, ◌∙◌}
use Rattle.s39_input.proofs.Sets.Checked.{same_writing}
use Rattle.s39_input.proofs.laws.one_show_output.Goals as goal

pub returns : goal.returns
returns c = λ input text other answer another p q. same_writing text other answer another (sym p ∙ q)
