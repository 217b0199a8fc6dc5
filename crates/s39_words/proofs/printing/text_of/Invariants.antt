use Rattle.std.proofs.Common.{◌≡◌, ◌≤◌, ◌-◌, ◌*◌, length, take}
use Rattle.std.specs.Prelude.{map}
use Rattle.std.specs.List.{join_with_byte}
use Rattle.s39_words.specs.Printing.{listed_word}
use Rattle.s39_words.proofs.printing.text_of.Given as goal

abbrev pub invariant-loop-i : goal.invariant-loop-i
invariant-loop-i l = record {
  joined : l.text.items ≡ join_with_byte 32 (map listed_word (take l.i l.indices));
  short : length l.text.items ≤ 9 * l.i - 1;
}
