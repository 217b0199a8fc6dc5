use Rattle.s39_input.specs.Input.{whole}
use Rattle.s39_drilling.specs.Drill.{IsDrillOutput}
use Rattle.s39_c.specs.Drilling.{GivesListing}
use Rattle.s39_c.specs.Exponents.{GivesUpTo}
use Rattle.s39_c.proofs.OneAnswer.{listing_once, drill_once}
use Rattle.s39_c.proofs.MostExponents.{one_up_to, up_to_once}
use Rattle.s39_c.proofs.laws.one_drill.Goals as goal

pub returns : goal.returns
returns c = λ most passphrase lines cursor limit number digits old.
    drill_once c.written_forms.ensures.once
    (λ form names. GivesUpTo most passphrase lines (GivesListing (λ n. IsDrillOutput form passphrase names n (whole lines)) limit old) old) old
    (λ form after. up_to_once most passphrase lines (GivesListing (λ n. IsDrillOutput form passphrase after n (whole lines)) limit old)
    (one_up_to most passphrase lines c.one_checked_set.ensures c.one_exponent.ensures.once)
    (listing_once c.one_listing_in_a_slice.ensures passphrase lines form after limit old) old) cursor limit number digits
