use Rattle.s39_c.proofs.OneRepair.{repair_fits}
use Rattle.s39_c.proofs.lengths.repairs_fit.Goals as goal

pub returns : goal.returns
returns c = repair_fits c.printed_forms.ensures.short
