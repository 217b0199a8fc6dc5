use Rattle.s39_c.proofs.FourRounds.{decrypted_round_once, decrypted_round_some}
use Rattle.s39_c.proofs.laws.one_decrypted_round.Goals as goal

pub returns-clause-once : goal.returns-clause-once
returns-clause-once c = λ parameters round encrypted passphrase old.
    decrypted_round_once parameters round encrypted passphrase old c.one_round.ensures.once

pub returns-clause-exists : goal.returns-clause-exists
returns-clause-exists c = λ parameters round encrypted passphrase old.
    decrypted_round_some parameters round encrypted passphrase old c.one_round.ensures.exists
