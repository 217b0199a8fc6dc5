use Rattle.s39_split.proofs.Completions.{complete_once, points_complete}
use Rattle.s39_split.proofs.laws.points_complete.Goals as goal

pub returns : goal.returns
returns c = record { some = points_complete; one = complete_once }
