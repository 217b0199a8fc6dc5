use Rattle.base58.proofs.Texts.{written, read}
use Rattle.base58.proofs.laws.texts_are_read.Goals as goal

pub returns-clause-written : goal.returns-clause-written
returns-clause-written c = written

pub returns-clause-read : goal.returns-clause-read
returns-clause-read c = read
