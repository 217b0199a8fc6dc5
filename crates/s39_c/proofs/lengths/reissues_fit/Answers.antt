use Rattle.s39_c.proofs.Rooms.{reissue_fits}
use Rattle.s39_c.proofs.lengths.reissues_fit.Goals as goal

pub returns : goal.returns
returns c = λ plan listed lines old new needed. reissue_fits c.reissues_are_short.ensures plan listed lines old new needed
