use Rattle.s39_set.proofs.OneLack.{lack_once}
use Rattle.s39_set.proofs.SetQuorums.{no_lack-from_meets}
use Rattle.s39_set.proofs.laws.one_lack.Goals as goal

pub returns-clause-one : goal.returns-clause-one
returns-clause-one c = lack_once

pub returns-clause-none : goal.returns-clause-none
returns-clause-none c set names lack quorum = no_lack-from_meets set names quorum.meets lack
