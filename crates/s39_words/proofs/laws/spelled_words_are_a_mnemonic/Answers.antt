use Rattle.s39_words.proofs.Mnemonics.{spelled_words}
use Rattle.s39_words.proofs.laws.spelled_words_are_a_mnemonic.Goals as goal

pub returns : goal.returns
returns c = spelled_words
