use Rattle.s39_repair.proofs.ComesBack.{comes_back}
use Rattle.s39_repair.proofs.laws.lost_words_come_back.Goals as goal

pub returns : goal.returns
returns c = λ line mnemonic share answer fits few is. comes_back line mnemonic share fits few answer is
