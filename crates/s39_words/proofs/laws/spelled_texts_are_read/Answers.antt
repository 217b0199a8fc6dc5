use Rattle.s39_words.proofs.OneReading.{read_from_spelled, spelled_from_read}
use Rattle.s39_words.proofs.laws.spelled_texts_are_read.Goals as goal

pub returns : goal.returns
returns c = λ text share. (spelled_from_read text share, read_from_spelled text share)
