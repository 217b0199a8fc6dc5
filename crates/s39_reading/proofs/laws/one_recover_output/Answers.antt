use Rattle.s39_reading.specs.Recover.{WritesSecret}
use Rattle.s39_input.proofs.Sets.Checked.{output_once}
use Rattle.s39_reading.proofs.Runs.Recovering.{secret_once}
use Rattle.s39_reading.proofs.laws.one_recover_output.Goals as goal

pub returns : goal.returns
returns c = λ form expected passphrase input.
    output_once c.one_checked_set.ensures (WritesSecret form expected passphrase) passphrase input
    (secret_once c.one_lack.ensures.one c.one_lack.ensures.none c.one_first_quorum.ensures c.one_outcome.ensures form expected passphrase)
