use Rattle.std.proofs.Common.{rules}
use Rattle.s39_tests_engine.proofs.split.two_needed.Goals as goal

pub returns : goal.returns
returns c = c.combine.ensures.length 16 (search rules)
