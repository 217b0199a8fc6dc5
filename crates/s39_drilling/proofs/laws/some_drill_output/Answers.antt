use Rattle.std.proofs.Common.{suc}
use Rattle.s39_drilling.specs.Drill.{WritesDrillOf}
use Rattle.s39_input.proofs.Sets.Checked.{output_some}
use Rattle.s39_drilling.proofs.Drills.Outputs.{some_drill_of_set}
use Rattle.s39_drilling.proofs.laws.some_drill_output.Goals as goal

pub returns : goal.returns
returns c = λ form passphrase after limit input.
    output_some c.one_checked_set.ensures (WritesDrillOf form passphrase after (suc limit)) passphrase input
    (λ set is. some_drill_of_set c.drill_laws.ensures c.one_lack.ensures.none c.quorum_or_lack.ensures set is form passphrase after limit)
