use Rattle.s39_repair.proofs.Misread.{no_mnemonic, bad_answer}
use Rattle.s39_repair.proofs.laws.nothing_false_is_written.Goals as goal

pub returns-clause-lost : goal.returns-clause-lost
returns-clause-lost c = λ line mnemonic share answer misread. no_mnemonic line mnemonic share misread answer

pub returns-clause-bad : goal.returns-clause-bad
returns-clause-bad c = λ line mnemonic share answer misread. bad_answer line mnemonic share misread answer
