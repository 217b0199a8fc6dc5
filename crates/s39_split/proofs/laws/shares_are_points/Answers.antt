use Rattle.s39_split.proofs.Completions.{shares_are_points}
use Rattle.s39_split.proofs.laws.shares_are_points.Goals as goal

pub returns : goal.returns
returns c = shares_are_points
