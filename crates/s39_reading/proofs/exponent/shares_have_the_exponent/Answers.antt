use Rattle.s39_reading.proofs.Exponents.{all_have_exponent, exponent_at_most_15}
use Rattle.s39_reading.proofs.exponent.shares_have_the_exponent.Goals as goal

pub returns-clause-all : goal.returns-clause-all
returns-clause-all c = all_have_exponent

pub returns-clause-most : goal.returns-clause-most
returns-clause-most c = exponent_at_most_15
