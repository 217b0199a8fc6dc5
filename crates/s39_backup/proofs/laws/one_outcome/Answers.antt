use Rattle.s39_backup.proofs.OneRecovery.{outcome_once}
use Rattle.s39_backup.proofs.laws.one_outcome.Goals as goal

pub returns : goal.returns
returns c = λ set names passphrase outcome other is quorum. outcome_once set names c.encrypts_one_secret.ensures passphrase outcome other
