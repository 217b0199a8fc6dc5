use Rattle.s39_kdf.proofs.Rounds.{secret_only}
use Rattle.s39_kdf.proofs.laws.encrypts_one_secret.Goals as goal

pub returns : goal.returns
returns c = secret_only
