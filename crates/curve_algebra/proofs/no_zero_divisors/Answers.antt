use Rattle.curve_algebra.proofs.Quotients.{product-not_zero}
use Rattle.curve_algebra.proofs.no_zero_divisors.Goals as goal

pub returns : goal.returns
returns c = product-not_zero
