use Rattle.s39_repair.proofs.OneWrongWord.{no_place_but_second}
use Rattle.s39_repair.proofs.laws.two_replaced_words.Goals as goal

pub returns : goal.returns
returns c = λ line words mnemonic share place other answer h apart off off' flags.
    no_place_but_second line words mnemonic share place other h apart off off' flags answer
