use Rattle.s39_set.proofs.Listings.{one_listing}
use Rattle.s39_set.proofs.AllQuorums.{all_quorums, listing}
use Rattle.std.proofs.Common.{take}
use Rattle.s39_set.proofs.laws.one_listing.Goals as goal

pub returns : goal.returns
returns c = record {
  exists = λ set given limit is. (take limit (all_quorums set is given), listing set is given limit);
  once = λ set given limit listed others p q. one_listing set given limit listed others p q;
}
