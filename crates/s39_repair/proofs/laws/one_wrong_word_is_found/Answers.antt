use Rattle.s39_repair.proofs.OneWrongWord.{wrong_word_found}
use Rattle.s39_repair.proofs.laws.one_wrong_word_is_found.Goals as goal

pub returns : goal.returns
returns c = wrong_word_found
