use Rattle.s39_set.proofs.SetQuorums.{just_from_quorum, quorum_from_just}
use Rattle.s39_set.proofs.laws.quorums_are_exact.Goals as goal

pub returns : goal.returns
returns c set names is = (just_from_quorum set is names, quorum_from_just set is names)
