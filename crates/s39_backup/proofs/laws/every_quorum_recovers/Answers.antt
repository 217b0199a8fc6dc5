use Rattle.s39_backup.proofs.Promise.{recovers_secret}
use Rattle.s39_backup.proofs.laws.every_quorum_recovers.Goals as goal

pub returns : goal.returns
returns c = λ set names passphrase secret is quorum backup.
    recovers_secret set names (record { is_set = is; exact = (c.quorums_are_exact.ensures set names is).0 quorum }) passphrase secret backup
    c.any_shares_combine.ensures
