use Rattle.s39_reading.proofs.Runs.Recovering.{recovers_created}
use Rattle.s39_reading.proofs.laws.created_backups_recover.Goals as goal

pub returns : goal.returns
returns c = λ form expected.
    recovers_created c.quorum_or_lack.ensures form expected c.accepted_inputs_are_share_sets.ensures
    (c.one_recover_output.ensures form expected) c.every_quorum_recovers.ensures
    c.mnemonics_of_a_backup_are_a_set.ensures
