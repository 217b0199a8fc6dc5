use Rattle.std.proofs.Common.{◌≡◌, take, map}
use Rattle.base58.specs.Base58.{digit_of}
use Rattle.base58.proofs.reading.digits_of.Given as goal

abbrev pub invariant-loop-character : goal.invariant-loop-character
invariant-loop-character l = l.digits.items ≡ map digit_of (take l.character-index l.text)
