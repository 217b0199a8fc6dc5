use Rattle.s39_input.proofs.Sets.MateLines.{judged_taken}
use Rattle.s39_input.proofs.laws.judged_mnemonics_are_taken.Goals as goal

pub returns : goal.returns
returns c = judged_taken
