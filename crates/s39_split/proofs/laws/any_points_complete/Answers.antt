use Rattle.s39_split.proofs.Completions.{any_points_complete}
use Rattle.s39_split.proofs.laws.any_points_complete.Goals as goal

pub returns : goal.returns
returns c = any_points_complete
