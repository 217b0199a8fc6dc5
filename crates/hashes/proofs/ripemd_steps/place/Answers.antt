use Rattle.hashes.proofs.RipemdBlocks.{left_below, right_below}
use Rattle.hashes.proofs.ripemd_steps.place.Goals as goal

pub returns-then-right-clause-below : goal.returns-then-right-clause-below
returns-then-right-clause-below c = right_below c.args.j

pub returns-else-right-clause-below : goal.returns-else-right-clause-below
returns-else-right-clause-below c = left_below c.args.j
