use Rattle.std.proofs.Common.{◌≡◌, ℕ, ◌<◌, true, false}
use Rattle.s39_repair.specs.Answer.{IsWrongWord}
use Rattle.s39_repair.specs.Searching.{IsAt}
use Rattle.s39_repair.proofs.wrong_word.wrong_word.Given as goal

abbrev pub invariant-loop-place : goal.invariant-loop-place
invariant-loop-place l = record {
  right : (at : ℕ) → IsWrongWord l.words at → l.place < at;
  plain : IsAt l.words l.place l.plain;
  extendable : IsAt l.words l.place l.extendable;
  flags : (l.plain.extendable ≡ false) × (l.extendable.extendable ≡ true);
}
