use Rattle.s39_repair.proofs.Candidates.{printed}
use Rattle.s39_repair.proofs.laws.mnemonics_are_printed.Goals as goal

pub returns : goal.returns
returns c = printed
