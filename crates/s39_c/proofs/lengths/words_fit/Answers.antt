use Rattle.s39_c.proofs.WordLines.{words_fit, words_reached}
use Rattle.s39_c.proofs.lengths.words_fit.Goals as goal

pub returns-clause-most : goal.returns-clause-most
returns-clause-most c = words_fit

pub returns-clause-reached : goal.returns-clause-reached
returns-clause-reached c = words_reached
