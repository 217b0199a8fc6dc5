use Rattle.s39_c.proofs.OneAnswer.{fingerprint_once}
use Rattle.s39_c.proofs.laws.one_fingerprint.Goals as goal

pub returns : goal.returns
returns c = fingerprint_once
