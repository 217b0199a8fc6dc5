use Rattle.s39_repair.proofs.Unread.{some_line, back, alone}
use Rattle.s39_repair.proofs.laws.unread_words_come_back.Goals as goal

pub returns-clause-some : goal.returns-clause-some
returns-clause-some c = some_line

pub returns-clause-back : goal.returns-clause-back
returns-clause-back c = λ line mnemonic read share answer all spells is few. back line mnemonic read share all spells is few answer

pub returns-clause-alone : goal.returns-clause-alone
returns-clause-alone c = λ line mnemonic read share answer all spells is few. alone line mnemonic read share all spells is few answer
