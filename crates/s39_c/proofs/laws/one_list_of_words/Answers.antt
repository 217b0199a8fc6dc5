use Rattle.std.proofs.Common.{length}
use Rattle.s39_c.specs.Answers.{done}
use Rattle.s39_c.specs.Words.{words_text}
use Rattle.s39_c.proofs.InSteps.{gives_as_once}
use Rattle.s39_c.proofs.laws.one_list_of_words.Goals as goal

pub returns : goal.returns
returns c = λ letters. let words = words_text letters in gives_as_once (done (length words)) words
