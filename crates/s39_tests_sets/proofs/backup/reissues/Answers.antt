use Rattle.std.proofs.Common.{rules}
use Rattle.s39_tests_sets.proofs.backup.reissues.Goals as goal

pub reissue-requires-clause-of_plan : goal.reissue-requires-clause-of_plan
reissue-requires-clause-of_plan g c = c.is_of_plan.ensures.0 (search rules)
