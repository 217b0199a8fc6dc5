use Rattle.std.proofs.lemmas.Bool.{false≢true}
use Rattle.s39_words.proofs.Rows.{alphabetic_from_fits}
use Rattle.s39_words.proofs.prefix.small_letters.Goals as goal

pub returns-in_err-small_letter-clause-unfit : goal.returns-in_err-small_letter-clause-unfit
returns-in_err-small_letter-clause-unfit c = λ none fits.
    false≢true (c.in_err-small_letter.ensures.letter.1 (alphabetic_from_fits c.args.letters.now fits c.loop-byte.byte-index 0 c.loop-byte-test.true))
