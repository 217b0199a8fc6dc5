use Rattle.s39_c.proofs.OneDecryption.{decrypted_once, decrypted_some}
use Rattle.s39_c.proofs.laws.one_decrypted.Goals as goal

pub returns-clause-once : goal.returns-clause-once
returns-clause-once c = λ parameters passphrase encrypted digits old.
    decrypted_once parameters passphrase encrypted digits old c.one_decryption.ensures.once

pub returns-clause-exists : goal.returns-clause-exists
returns-clause-exists c = λ parameters passphrase encrypted digits old.
    decrypted_some parameters passphrase encrypted digits old c.one_decryption.ensures.exists
