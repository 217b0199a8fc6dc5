use Rattle.s39_backup.proofs.Creations.{backup_once}
use Rattle.s39_backup.proofs.laws.one_created_backup.Goals as goal

pub returns : goal.returns
returns c =
    backup_once c.needed_random_bytes.ensures c.shares_of_a_split.ensures.length c.one_split.ensures.one c.one_encryption.ensures.of_secrets
