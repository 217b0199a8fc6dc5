use Rattle.s39_words.proofs.WordTable.{rows_are}
use Rattle.s39_words.proofs.word_list.rows.Goals as goal

pub returns : goal.returns
returns c = rows_are
