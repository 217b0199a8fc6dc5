use Rattle.std.proofs.Common.{◌+◌, ◌≤◌, length}
use Rattle.s39_words.specs.FirstWord.{BeginsInWord}
use Rattle.s39_words.proofs.Indices.{KeepsWords}
use Rattle.s39_words.proofs.spelling.indices_of.Given as goal

abbrev pub invariant-loop-rest : goal.invariant-loop-rest
invariant-loop-rest l = record {
  begins : BeginsInWord l.rest;
  short : l.words + length l.rest ≤ length l.line;
  keeps : KeepsWords l.line l.rest l.indices.items l.words;
}

abbrev pub decreases-loop-rest : goal.decreases-loop-rest
decreases-loop-rest l = length l.rest
