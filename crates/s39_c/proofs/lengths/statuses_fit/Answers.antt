use Rattle.s39_c.proofs.Rooms.{status_fits}
use Rattle.s39_c.proofs.lengths.statuses_fit.Goals as goal

pub returns : goal.returns
returns c = λ lines old new needed. status_fits c.statuses_are_short.ensures lines old new needed
