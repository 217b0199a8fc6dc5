use Rattle.std.proofs.Common.{length}
use Rattle.s39_backup.proofs.refitting.+refit_groups.Given as goal

abbrev pub decreases-refit_groups : goal.decreases-refit_groups
decreases-refit_groups l = length l.groups.now
