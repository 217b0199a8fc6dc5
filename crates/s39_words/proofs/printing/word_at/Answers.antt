use Rattle.std.proofs.Common.{[], length, get_or, ap, ◌∙◌, arith}
use Rattle.s39_words.specs.Printing.{listed_word}
use Rattle.s39_words.proofs.Listed.{length_rows, row_at, FitsRow-listed_word}
use Rattle.s39_words.proofs.printing.word_at.Goals as goal

pub bounds-rows-index : goal.bounds-rows-index
bounds-rows-index c = omega (arith, ap length c.rows.ensures, length_rows)

pub returns : goal.returns
returns c =
    let is_row = ap (λ rows. get_or rows c.args.index []) c.rows.ensures ∙ row_at c.args.index c.requires in
    c.letters_of.ensures (listed_word c.args.index) (FitsRow-listed_word c.args.index c.requires) is_row
