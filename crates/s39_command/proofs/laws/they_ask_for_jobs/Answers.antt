use Rattle.std.proofs.Common.{codes, refl}
use Rattle.s39_command.proofs.laws.they_ask_for_jobs.Goals as goal

pub returns-clause-creation : goal.returns-clause-creation
returns-clause-creation c = (record { ref_ptr = (0, 0); now = codes "2of3" }, refl, (refl, refl, refl, refl))

pub returns-clause-recovery : goal.returns-clause-recovery
returns-clause-recovery c = (refl, refl, refl)
