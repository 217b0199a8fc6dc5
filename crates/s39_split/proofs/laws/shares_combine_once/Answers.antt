use Rattle.s39_split.proofs.OneOutcome.{combine_once}
use Rattle.s39_split.proofs.laws.shares_combine_once.Goals as goal

pub returns : goal.returns
returns c = combine_once
