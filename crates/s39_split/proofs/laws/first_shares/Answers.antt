use Rattle.s39_split.proofs.SplitLaws.{first_shares_are_a_split}
use Rattle.s39_split.proofs.laws.first_shares.Goals as goal

pub returns : goal.returns
returns c = first_shares_are_a_split
