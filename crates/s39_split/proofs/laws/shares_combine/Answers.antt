use Rattle.s39_split.proofs.OneOutcome.{shares_combine}
use Rattle.s39_split.proofs.laws.shares_combine.Goals as goal

pub returns : goal.returns
returns c = shares_combine
