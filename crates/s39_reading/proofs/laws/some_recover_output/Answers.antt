use Rattle.s39_reading.specs.Recover.{WritesSecret}
use Rattle.s39_input.proofs.Sets.Checked.{output_some}
use Rattle.s39_reading.proofs.Runs.Recovering.{some_secret}
use Rattle.s39_reading.proofs.laws.some_recover_output.Goals as goal

pub returns : goal.returns
returns c = λ form expected passphrase input.
    output_some c.one_checked_set.ensures (WritesSecret form expected passphrase) passphrase input
    (some_secret c.quorum_or_lack.ensures form expected c.every_quorum_has_an_outcome.ensures passphrase)
