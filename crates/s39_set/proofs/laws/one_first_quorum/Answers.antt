use Rattle.s39_set.proofs.Listings.{one_first}
use Rattle.s39_set.proofs.laws.one_first_quorum.Goals as goal

pub returns : goal.returns
returns c set given names others p q = one_first set given names others p q
