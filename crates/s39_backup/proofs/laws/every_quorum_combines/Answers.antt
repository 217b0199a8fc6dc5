use Rattle.s39_backup.proofs.Promise.{combines_to_encrypted}
use Rattle.s39_backup.proofs.laws.every_quorum_combines.Goals as goal

pub returns : goal.returns
returns c = λ set names passphrase secret is quorum backup.
    combines_to_encrypted set names (record { is_set = is; exact = (c.quorums_are_exact.ensures set names is).0 quorum }) passphrase secret backup
    c.any_shares_combine.ensures
