use Rattle.s39_backup.proofs.OneRecovery.{secret_length, refused_group}
use Rattle.s39_backup.proofs.laws.outcomes_in_range.Goals as goal

pub returns-clause-secret : goal.returns-clause-secret
returns-clause-secret c = λ set names passphrase secret is quorum.
    secret_length set names (record { is_set = is; exact = (c.quorums_are_exact.ensures set names is).0 quorum })
    c.encryption_keeps_length_and_bytes.ensures passphrase secret

pub returns-clause-group : goal.returns-clause-group
returns-clause-group c = λ set names passphrase group. refused_group set names group
