use Rattle.s39_set.proofs.Counted.{counted}
use Rattle.s39_set.proofs.laws.quorums_are_counted.Goals as goal

pub returns : goal.returns
returns c set quorums is all = counted set quorums is all
