use Rattle.s39_c.proofs.Rooms.{fingerprint_fits}
use Rattle.s39_c.proofs.lengths.fingerprints_fit.Goals as goal

pub returns : goal.returns
returns c = fingerprint_fits
