use Rattle.s39_backup.proofs.OneRecovery.{outcome_exists}
use Rattle.s39_backup.proofs.laws.every_quorum_has_an_outcome.Goals as goal

pub returns : goal.returns
returns c = λ set names passphrase is quorum.
    outcome_exists set names (record { is_set = is; exact = (c.quorums_are_exact.ensures set names is).0 quorum }) c.one_encryption.ensures.of_texts
    passphrase
