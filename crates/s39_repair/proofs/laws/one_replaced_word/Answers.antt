use Rattle.s39_repair.proofs.OneWrongWord.{replaced_bad}
use Rattle.s39_repair.proofs.laws.one_replaced_word.Goals as goal

pub returns : goal.returns
returns c = λ line words mnemonic share place h. replaced_bad line words mnemonic share place place h
