use Rattle.s39_c.proofs.Rooms.{drill_fits}
use Rattle.s39_c.proofs.lengths.listings_fit.Goals as goal

pub returns : goal.returns
returns c = λ most passphrase lines cursor limit number digits old new needed.
    drill_fits c.first_lines_are_short.ensures.most passphrase lines cursor limit number digits old new needed most
