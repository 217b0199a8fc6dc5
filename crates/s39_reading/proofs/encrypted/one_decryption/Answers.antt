use Rattle.s39_reading.proofs.Decryptions.{decryption_once, some_decryption}
use Rattle.s39_reading.proofs.encrypted.one_decryption.Goals as goal

pub returns-clause-once : goal.returns-clause-once
returns-clause-once c = λ expected passphrase.
    let judged = c.passphrases_are_printable_or_not.ensures in
    decryption_once judged.one judged.none judged.some passphrase c.encrypts_one_secret.ensures expected

pub returns-clause-exists : goal.returns-clause-exists
returns-clause-exists c = λ expected passphrase.
    let judged = c.passphrases_are_printable_or_not.ensures in
    some_decryption judged.one judged.none judged.some passphrase c.one_encryption.ensures.of_texts expected
