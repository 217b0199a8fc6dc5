use Rattle.std.proofs.Common.{arith}
use Rattle.s39_input.proofs.Codes.{refusal_free, plan_free}
use Rattle.s39_input.proofs.laws.number_16_is_free.Goals as goal

pub returns-clause-runs : goal.returns-clause-runs
returns-clause-runs c = refusal_free

pub returns-clause-plans : goal.returns-clause-plans
returns-clause-plans c = plan_free

pub returns-clause-cursors : goal.returns-clause-cursors
returns-clause-cursors c = λ same. omega (arith, same)

pub returns-clause-names : goal.returns-clause-names
returns-clause-names c = λ same. omega (arith, same)

pub returns-clause-fingerprints : goal.returns-clause-fingerprints
returns-clause-fingerprints c = λ same. omega (arith, same)
