use Rattle.s39_drilling.proofs.Drills.OneListing.{listing_once}
use Rattle.s39_drilling.proofs.laws.one_listing_in_a_slice.Goals as goal

pub returns : goal.returns
returns c form passphrase after limit input old = listing_once (c.one_drill_output.ensures form) passphrase after limit input old
