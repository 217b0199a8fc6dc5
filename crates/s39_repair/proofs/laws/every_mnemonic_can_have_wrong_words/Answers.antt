use Rattle.s39_repair.proofs.Unread.{wrong_words}
use Rattle.s39_repair.proofs.laws.every_mnemonic_can_have_wrong_words.Goals as goal

pub returns : goal.returns
returns c = wrong_words
