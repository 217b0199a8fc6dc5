use Rattle.std.proofs.Common.{◌≡◌, ◌<◌, [], length, get_or, map, ap, ◌∙◌, arith}
use Rattle.std.specs.Int.{w64, to_be_bytes}
use Rattle.s39_words.specs.WordList.{word_list}
use Rattle.s39_words.specs.Rows.{row_of, number_of_row}
use Rattle.s39_words.proofs.Listed.{length_rows, row_at}
use Rattle.s39_words.proofs.RowNumbers.{row_from_number}
use Rattle.s39_words.proofs.word_list.row_at.Goals as goal

pub returns : goal.returns
returns c =
    let rows = c.rows-row-items.result.now in
    let index = c.args.index in
    let count = ap length c.rows-row-items.ensures ∙ length_rows in
    let within : index < length (map row_of word_list) = omega (arith, c.requires, length_rows) in
    let found : c.loop-i.found ≡ number_of_row (get_or rows index []) = c.loop-i.invariant.after (omega (arith, count, c.requires)) in
    c.to_be_bytes.ensures
    ∙ ap (to_be_bytes w64) (found ∙ ap (λ rows. number_of_row (get_or rows index [])) c.rows-row-items.ensures)
    ∙ row_from_number index within ∙ row_at index c.requires
