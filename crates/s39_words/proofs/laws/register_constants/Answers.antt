use Rattle.s39_words.proofs.Registers.{constant-is}
use Rattle.s39_words.proofs.laws.register_constants.Goals as goal

pub returns : goal.returns
returns c = constant-is
