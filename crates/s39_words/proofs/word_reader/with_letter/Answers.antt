use Rattle.std.proofs.Common.{arith}
use Rattle.s39_words.proofs.Rows.{with_letter_is, with_letter_fits}
use Rattle.s39_words.proofs.word_reader.with_letter.Goals as goal

pub overflow_add-result : goal.overflow_add-result
overflow_add-result c =
    let r = c.requires.row in
    let below = with_letter_fits r.0 c.args.number c.args.letters c.args.letter c.from.result r.1 r.2 r.4 c.requires.small c.from.ensures r.3 in
    omega (arith, below)

pub returns : goal.returns
returns c = λ word length_is number_is.
    with_letter_is word c.args.number c.args.letters c.args.letter c.from.result length_is c.requires.row.2 number_is c.requires.small c.from.ensures
