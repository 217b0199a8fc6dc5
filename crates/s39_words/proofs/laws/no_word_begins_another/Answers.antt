use Rattle.s39_words.proofs.Beginnings.{no_word_begins_another}
use Rattle.s39_words.proofs.laws.no_word_begins_another.Goals as goal

pub returns : goal.returns
returns c = no_word_begins_another
