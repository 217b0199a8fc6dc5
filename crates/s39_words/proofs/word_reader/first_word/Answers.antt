use Rattle.std.proofs.Common.{refl}
use Rattle.s39_words.proofs.WordSearch.{unfit_is_unknown, unlisted_is_unknown, first_is_known, rest_is_shorter}
use Rattle.s39_words.proofs.word_reader.first_word.Goals as goal

pub returns-in_err-row-clause-unknown : goal.returns-in_err-row-clause-unknown
returns-in_err-row-clause-unknown c = λ none.
    unfit_is_unknown c.args.text.now c.requires.begins c.requires.some (c.in_err-row.ensures.unfit refl)

pub returns-in_err-index-clause-unknown : goal.returns-in_err-index-clause-unknown
returns-in_err-index-clause-unknown c = λ none.
    unlisted_is_unknown c.args.text.now c.in_ok-row.row.rest.now c.in_ok-row.row.number c.requires.begins c.requires.some c.in_ok-row.ensures.row
    c.in_err-index.ensures.same

pub returns-clause-known : goal.returns-clause-known
returns-clause-known c =
    first_is_known c.args.text.now c.in_ok-row.row.rest.now c.in_ok-row.row.number c.in_ok-index.index c.requires.begins c.requires.some
    c.in_ok-row.ensures.row c.in_ok-index.ensures.same

pub returns-clause-short : goal.returns-clause-short
returns-clause-short c =
    let row = c.in_ok-row.ensures.row in
    rest_is_shorter c.args.text.now row.0 c.in_ok-row.row.rest.now row.1 c.requires.begins c.requires.some
