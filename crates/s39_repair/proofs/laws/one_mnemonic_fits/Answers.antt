use Rattle.s39_repair.proofs.Misread.{one_fits_closed}
use Rattle.s39_repair.proofs.laws.one_mnemonic_fits.Goals as goal

pub returns : goal.returns
returns c = one_fits_closed
