use Rattle.s39_set.proofs.Enough.{no_lack_from_enough, quorum_from_enough, enough_from_quorum, enough_from_no_lack}
use Rattle.s39_set.proofs.laws.enough_is_a_quorum.Goals as goal

pub returns-clause-quorum : goal.returns-clause-quorum
returns-clause-quorum c set is = (quorum_from_enough set is, λ (names, quorum). enough_from_quorum set is names quorum)

pub returns-clause-no_lack : goal.returns-clause-no_lack
returns-clause-no_lack c set is = (no_lack_from_enough set is, enough_from_no_lack set is)
