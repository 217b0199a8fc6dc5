use Rattle.std.proofs.Common.{arith}
use Rattle.s39_words.proofs.Listed.{short_word}
use Rattle.s39_c.proofs.words.word_line.Goals as goal

pub line_of-requires : goal.line_of-requires
line_of-requires c = omega (arith, short_word c.args.index c.word_at.result.now c.requires c.word_at.ensures)
