use Rattle.s39_clap.proofs.Entered.{taken_enters_one}
use Rattle.s39_clap.proofs.laws.taken_words_enter_one.Goals as goal

pub returns : goal.returns
returns c = taken_enters_one
