use Rattle.s39_set.proofs.SameShares.{refusal-same_shares}
use Rattle.s39_set.proofs.laws.same_shares_refuse_the_same.Goals as goal

pub returns : goal.returns
returns c = refusal-same_shares
