use Rattle.std.proofs.Common.{◌+◌, ◌≤◌, length}
use Rattle.s39_words.specs.FirstWord.{BeginsInWord}
use Rattle.s39_repair.proofs.MarksRead.{KeepsMarks}
use Rattle.s39_repair.proofs.marks.marks_of.Given as goal

abbrev pub invariant-loop-rest : goal.invariant-loop-rest
invariant-loop-rest l = record {
  begins : BeginsInWord l.rest;
  short : l.words + length l.rest ≤ length l.line;
  keeps : KeepsMarks l.line l.rest l.marks.items l.words;
}

abbrev pub decreases-loop-rest : goal.decreases-loop-rest
decreases-loop-rest l = length l.rest
