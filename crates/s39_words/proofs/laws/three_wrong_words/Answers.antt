use Rattle.s39_words.proofs.WrongWords.{bad_checksum}
use Rattle.s39_words.proofs.laws.three_wrong_words.Goals as goal

pub returns : goal.returns
returns c = bad_checksum
