use Rattle.s39_split.proofs.Choices.{any_shares_combine}
use Rattle.s39_split.proofs.laws.any_shares_combine.Goals as goal

pub returns : goal.returns
returns c = any_shares_combine
