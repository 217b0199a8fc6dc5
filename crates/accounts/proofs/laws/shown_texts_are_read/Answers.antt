use Rattle.accounts.proofs.Forms.{written}
use Rattle.accounts.proofs.ReadBack.{read}
use Rattle.accounts.proofs.laws.shown_texts_are_read.Goals as goal

pub returns-clause-written : goal.returns-clause-written
returns-clause-written c = written

pub returns-clause-read : goal.returns-clause-read
returns-clause-read c = read
