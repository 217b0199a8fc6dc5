use Rattle.std.proofs.Common.{sym, ◌∙◌}
use Rattle.s39_input.proofs.laws.one_set.Goals as goal

pub returns : goal.returns
returns c = λ input answer another p q. sym p ∙ q
