use Rattle.s39_set.proofs.Listings.{listing_goes_on, listing_ends, listings_join}
use Rattle.s39_set.proofs.laws.listings_join.Goals as goal

pub returns : goal.returns
returns c = record {
  first = λ set given names limit others first listing. listing_goes_on set given names limit others first listing;
  none = λ set given limit none. listing_ends set given limit none;
  parts = λ set given limit more before last others p q. listings_join set given limit more before last others p q;
}
