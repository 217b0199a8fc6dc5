use Rattle.s39_words.proofs.Rows.{HoldsLetters}
use Rattle.s39_words.proofs.word_reader.first_row.Given as goal

abbrev pub invariant-loop-i : goal.invariant-loop-i
invariant-loop-i l = HoldsLetters l.number l.text l.i
