use Rattle.s39_set.proofs.SameShares.{set_once}
use Rattle.s39_set.proofs.laws.sets_are_their_shares.Goals as goal

pub returns : goal.returns
returns c = set_once
