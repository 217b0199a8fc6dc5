use Rattle.std.proofs.Common.{◌≤◌}
use Rattle.s39_lists.specs.Written.{bits_with}
use Rattle.s39_lists.proofs.Written.{AreBits}
use Rattle.s39_words.proofs.word_writer.WordWriter.write.Given as goal

abbrev pub invariant-loop-self : goal.invariant-loop-self
invariant-loop-self l = record {
  bits : AreBits 10 l.self-inside.words.items l.self-inside.held l.self-inside.rest (bits_with l.fn.self l.fn.width l.fn.number);
  held : l.self-inside.held ≤ 24;
}

abbrev pub decreases-loop-self : goal.decreases-loop-self
decreases-loop-self l = l.self-inside.held
