use Rattle.bech32.proofs.Texts.{written, read}
use Rattle.bech32.proofs.laws.addresses_are_read.Goals as goal

pub returns-clause-written : goal.returns-clause-written
returns-clause-written c = written

pub returns-clause-read : goal.returns-clause-read
returns-clause-read c = read
