use Rattle.s39_reading.proofs.OneRound.{round_once, some_round}
use Rattle.s39_reading.proofs.rounds.one_round.Goals as goal

pub returns-clause-once : goal.returns-clause-once
returns-clause-once c = λ round passphrase.
    let judged = c.passphrases_are_printable_or_not.ensures in round_once judged.one judged.none judged.some passphrase round

pub returns-clause-exists : goal.returns-clause-exists
returns-clause-exists c = λ round passphrase.
    let judged = c.passphrases_are_printable_or_not.ensures in some_round judged.one judged.none judged.some passphrase round
