use Rattle.s39_drilling.proofs.Drills.OneDrill.{drills_join}
use Rattle.s39_drilling.proofs.laws.drills_join.Goals as goal

pub returns : goal.returns
returns c = λ form set. drills_join c.listings_join.ensures.parts set
