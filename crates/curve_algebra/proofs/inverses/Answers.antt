use Rattle.curve_algebra.proofs.Quotients.{inverse-law}
use Rattle.curve_algebra.proofs.inverses.Goals as goal

pub returns : goal.returns
returns c = inverse-law
