use Rattle.s39_set.proofs.SharesThatJoin.{joins_from_none, none_from_joins}
use Rattle.s39_set.proofs.laws.shares_that_agree_join.Goals as goal

pub returns : goal.returns
returns c shares share = (joins_from_none shares share, none_from_joins shares share)
