use Rattle.std.proofs.Common.{◌≡◌}
use Rattle.s39_words.proofs.DataWords.{written_until}
use Rattle.s39_words.proofs.packing.data_words_of.Given as goal

abbrev pub invariant-loop-byte : goal.invariant-loop-byte
invariant-loop-byte l = l.words ≡ written_until l.fn.share l.byte-index
