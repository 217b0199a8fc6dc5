use Rattle.s39_set.proofs.Listings.{listed_by_walk, walk_from_all}
use Rattle.s39_set.proofs.laws.walks_list_all.Goals as goal

pub returns : goal.returns
returns c set given quorums = (listed_by_walk set given quorums, walk_from_all set given quorums)
