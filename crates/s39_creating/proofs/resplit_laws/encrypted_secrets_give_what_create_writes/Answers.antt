use Rattle.s39_creating.proofs.Resplits.FromEncrypted.{create_writes}
use Rattle.s39_creating.proofs.resplit_laws.encrypted_secrets_give_what_create_writes.Goals as goal

pub returns : goal.returns
returns c = λ group_threshold groups random encrypted.
    create_writes group_threshold groups random encrypted c.encrypted_secrets_are_split_as_created.ensures.created
    c.encryption_keeps_length_and_bytes.ensures
