use Rattle.s39_set.proofs.SetQuorums.{first_or_lack}
use Rattle.s39_set.proofs.laws.quorum_or_lack.Goals as goal

pub returns : goal.returns
returns c set is = first_or_lack set is
