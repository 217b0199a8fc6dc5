use Rattle.std.proofs.Common.{◌≡◌, take, fold}
use Rattle.s39_words.specs.Checksum.{customization_string}
use Rattle.s39_words.specs.Division.{unpacked, next_remainder, one_remainder}
use Rattle.s39_words.proofs.checksum.Register.after_customization_string.Given as goal

abbrev pub invariant-loop-byte : goal.invariant-loop-byte
invariant-loop-byte l = record {
  register : unpacked l.register.bits ≡ fold next_remainder one_remainder (take l.byte-index l.customization_string);
  string : l.customization_string ≡ customization_string l.extendable;
}
