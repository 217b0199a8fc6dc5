use Rattle.s39_repair.proofs.Misread.{two_fit_at_most}
use Rattle.s39_repair.proofs.laws.two_mnemonics_fit.Goals as goal

pub returns : goal.returns
returns c = two_fit_at_most
