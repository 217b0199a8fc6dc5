use Rattle.std.proofs.Common.{◌≡◌, ℕ, drop, length}
use Rattle.s39_words.specs.Spelling.{words_of}
use Rattle.s39_words.proofs.word_reader.after_separators.Given as goal

abbrev pub invariant-loop-rest : goal.invariant-loop-rest
invariant-loop-rest l = record {
  same_words : words_of l.rest ≡ words_of l.text;
  suffix : (n : ℕ) × (l.rest ≡ drop n l.text);
}

abbrev pub decreases-loop-rest : goal.decreases-loop-rest
decreases-loop-rest l = length l.rest
