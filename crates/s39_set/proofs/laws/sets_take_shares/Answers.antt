use Rattle.s39_set.proofs.Inserting.{takes_share}
use Rattle.s39_set.proofs.laws.sets_take_shares.Goals as goal

pub returns : goal.returns
returns c set share is valid allowed = takes_share set share is valid allowed
