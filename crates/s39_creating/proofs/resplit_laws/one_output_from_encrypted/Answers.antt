use Rattle.s39_creating.proofs.Resplits.FromEncrypted.{output_once, some_output}
use Rattle.s39_creating.proofs.resplit_laws.one_output_from_encrypted.Goals as goal

pub returns-clause-once : goal.returns-clause-once
returns-clause-once c = λ group_threshold groups random encrypted.
    output_once group_threshold groups random encrypted
    (λ result other long. c.one_creation_from_encrypted.ensures.once encrypted.0 group_threshold groups random encrypted.1 result other long)
    c.one_printed_form.ensures

pub returns-clause-exists : goal.returns-clause-exists
returns-clause-exists c = λ group_threshold groups random encrypted plan bytes drawn.
    some_output group_threshold groups random encrypted c.encrypted_secrets_are_split_as_created.ensures.created
    c.encryption_keeps_length_and_bytes.ensures c.one_encryption.ensures.of_texts
    (λ asked shares is_plan long secret_bytes created. c.created_shares_are_shares.ensures asked random shares is_plan long secret_bytes drawn created)
    plan bytes
    (λ long. c.one_creation_from_encrypted.ensures.exists encrypted.0 group_threshold groups random encrypted.1 plan long bytes drawn)
    c.every_share_has_a_printed_form.ensures
