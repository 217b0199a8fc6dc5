use Rattle.s39_words.proofs.Mnemonics.{mistyped}
use Rattle.s39_words.proofs.laws.every_mnemonic_can_be_mistyped.Goals as goal

pub returns-clause-some : goal.returns-clause-some
returns-clause-some c = mistyped

pub returns-clause-mistyped : goal.returns-clause-mistyped
returns-clause-mistyped c = λ text mnemonic words known same_count same_flag wrong few.
    record { words = words; known = known; same_count = same_count; same_flag = same_flag; wrong = wrong; few = few }
