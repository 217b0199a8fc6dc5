use Rattle.std.proofs.Common.{length}
use Rattle.s39_words.proofs.Indices.{at_most_words}
use Rattle.s39_repair.specs.Marks.{spelling}
use Rattle.s39_repair.proofs.Wholes.{bad_spells_none}
use Rattle.s39_repair.proofs.answer.bad_checksum.Goals as goal

pub wrong_word-requires-clause-short : goal.wrong_word-requires-clause-short
wrong_word-requires-clause-short c = at_most_words (length c.args.words.now) c.requires.count

pub wrong_word-requires-clause-bad : goal.wrong_word-requires-clause-bad
wrong_word-requires-clause-bad c = λ share. bad_spells_none (spelling c.args.words.now) share c.requires.bad
