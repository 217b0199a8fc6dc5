use Rattle.s39_creating.proofs.Reissues.Named.{test_plans}
use Rattle.s39_creating.proofs.laws.plans_are_tested.Goals as goal

pub returns : goal.returns
returns c = test_plans
