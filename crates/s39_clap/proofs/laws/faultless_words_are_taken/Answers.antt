use Rattle.s39_clap.proofs.Agreement.{faultless_taken}
use Rattle.s39_clap.proofs.laws.faultless_words_are_taken.Goals as goal

pub returns : goal.returns
returns c = faultless_taken
