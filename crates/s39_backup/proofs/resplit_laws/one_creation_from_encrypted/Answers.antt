use Rattle.std.proofs.Common.{ℕ, [], length, sym, subst}
use Rattle.s39_kdf.specs.Limits.{IsSecretLength}
use Rattle.s39_backup.specs.Created.{asked_for}
use Rattle.s39_backup.proofs.Resplits.{some_creation, creation_once}
use Rattle.s39_backup.proofs.resplit_laws.one_creation_from_encrypted.Goals as goal

pub returns-clause-exists : goal.returns-clause-exists
returns-clause-exists c = λ old group_threshold groups random encrypted plan long bytes drawn.
    let (secret, is, only) = c.one_encryption.ensures.of_texts [] old encrypted long.0 in
    let kept = c.encryption_keeps_length_and_bytes.ensures [] old secret encrypted is in
    some_creation group_threshold groups random old encrypted secret is c.encryption_keeps_length_and_bytes.ensures
    c.one_encryption.ensures.of_secrets (subst (λ (n : ℕ). IsSecretLength n) kept.0 long) (kept.2 bytes)
    (λ given options is_length given_bytes count.
    c.every_backup_can_be_created.ensures (asked_for given [] group_threshold groups options) random plan is_length given_bytes drawn count)

pub returns-clause-once : goal.returns-clause-once
returns-clause-once c = λ old group_threshold groups random encrypted result other long.
    let (secret, is, only) = c.one_encryption.ensures.of_texts [] old encrypted long.0 in
    creation_once group_threshold groups random old encrypted secret is (λ asked. c.one_created_backup.ensures asked random) result other
