use Rattle.std.proofs.Common.{◌≡◌, take, fold}
use Rattle.s39_words.specs.Division.{unpacked, next_remainder}
use Rattle.s39_words.proofs.checksum.Register.after_words.Given as goal

abbrev pub invariant-loop-word : goal.invariant-loop-word
invariant-loop-word l = unpacked l.register.bits ≡ fold next_remainder (unpacked l.fn.self.bits) (take l.word-index l.words)
