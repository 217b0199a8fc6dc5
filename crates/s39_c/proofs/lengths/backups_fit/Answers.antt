use Rattle.s39_c.proofs.Rooms.{backup_fits}
use Rattle.s39_c.proofs.lengths.backups_fit.Goals as goal

pub returns : goal.returns
returns c = λ wanted random old new needed. backup_fits random old new needed c.backups_are_short.ensures wanted
