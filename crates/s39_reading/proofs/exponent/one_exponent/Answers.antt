use Rattle.s39_reading.proofs.Exponents.{exponent_once, some_exponent}
use Rattle.s39_reading.proofs.exponent.one_exponent.Goals as goal

pub returns-clause-once : goal.returns-clause-once
returns-clause-once c = exponent_once c.one_lack.ensures.one c.one_lack.ensures.none c.one_first_quorum.ensures

pub returns-clause-exists : goal.returns-clause-exists
returns-clause-exists c = some_exponent c.quorum_or_lack.ensures
