use Rattle.s39_c.proofs.Rooms.{text_fits, text_written}
use Rattle.s39_c.proofs.lengths.texts_fit.Goals as goal

pub returns-clause-short : goal.returns-clause-short
returns-clause-short c = text_fits

pub returns-clause-written : goal.returns-clause-written
returns-clause-written c = text_written
