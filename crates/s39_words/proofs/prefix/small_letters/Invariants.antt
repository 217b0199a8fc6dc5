use Rattle.std.proofs.Common.{◌≡◌, take}
use Rattle.std.specs.Prelude.{All, map}
use Rattle.std.specs.Char.{to_ascii_lowercase}
use Rattle.s39_words.specs.WordList.{IsLetter}
use Rattle.s39_words.proofs.prefix.small_letters.Given as goal

abbrev pub invariant-loop-byte : goal.invariant-loop-byte
invariant-loop-byte l = record {
  same : l.small.items ≡ map to_ascii_lowercase (take l.byte-index l.letters);
  letters : All IsLetter l.small.items;
}
