use Rattle.std.proofs.Common.{[]}
use Rattle.std.proofs.lemmas.List.Elements.{All-nil}
use Rattle.s39_kdf.specs.Limits.{IsPrintable}
use Rattle.s39_backup.specs.Created.{asked_for}
use Rattle.s39_backup.specs.Resplit.{options_of}
use Rattle.s39_input.specs.Input.{whole}
use Rattle.s39_creating.proofs.Resplits.FromEncrypted.{is_measured}
use Rattle.s39_creating.proofs.resplit_laws.backups_from_encrypted_are_short.Goals as goal

pub returns : goal.returns
returns c = λ group_threshold groups random encrypted text output.
    let (secret, is, only) = c.one_encryption.ensures.of_texts [] encrypted.0 encrypted.1
    (is_measured group_threshold groups random encrypted text output).0 in
    c.backups_are_short.ensures (asked_for secret [] group_threshold groups (options_of encrypted.0)) (whole random) text
    (c.encrypted_secrets_give_what_create_writes.ensures group_threshold groups random encrypted text [] secret output (All-nil IsPrintable) is)
