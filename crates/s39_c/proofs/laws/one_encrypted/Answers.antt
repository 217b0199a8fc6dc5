use Rattle.s39_c.proofs.OneDecryption.{encrypted_once, encrypted_some}
use Rattle.s39_c.proofs.laws.one_encrypted.Goals as goal

pub returns-clause-once : goal.returns-clause-once
returns-clause-once c = encrypted_once c.one_encrypted_secret.ensures.once

pub returns-clause-exists : goal.returns-clause-exists
returns-clause-exists c = encrypted_some c.one_encrypted_secret.ensures.exists
