use Rattle.s39_backup.proofs.Creations.{backup_exists}
use Rattle.s39_backup.proofs.laws.every_backup_can_be_created.Goals as goal

pub returns : goal.returns
returns c =
    backup_exists c.one_split.ensures.some c.shares_of_a_split.ensures.length c.shares_of_a_split.ensures.bytes c.one_encryption.ensures.of_secrets
    c.encryption_keeps_length_and_bytes.ensures
