use Rattle.s39_words.proofs.Beginnings.{begin_apart}
use Rattle.s39_words.proofs.laws.first_letters_tell_words_apart.Goals as goal

pub returns : goal.returns
returns c = begin_apart
