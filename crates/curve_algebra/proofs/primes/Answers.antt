use Rattle.curve_algebra.proofs.Quotients.{prime_prime, order_prime}
use Rattle.curve_algebra.proofs.primes.Goals as goal

pub returns-clause-prime : goal.returns-clause-prime
returns-clause-prime c = prime_prime

pub returns-clause-order : goal.returns-clause-order
returns-clause-order c = order_prime
