use Rattle.s39_drilling.specs.Drill.{WritesDrillOf}
use Rattle.s39_input.proofs.Sets.Checked.{output_once}
use Rattle.s39_drilling.proofs.Drills.Outputs.{drill_of_set_once}
use Rattle.s39_drilling.proofs.laws.one_drill_output.Goals as goal

pub returns : goal.returns
returns c = λ form passphrase after limit input.
    output_once c.one_checked_set.ensures (WritesDrillOf form passphrase after limit) passphrase input
    (drill_of_set_once c.one_lack.ensures.one c.one_listing.ensures.once c.one_outcome.ensures form passphrase after limit)
