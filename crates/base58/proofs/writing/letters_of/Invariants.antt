use Rattle.std.proofs.Common.{◌≡◌, take, map}
use Rattle.base58.specs.Base58.{letter}
use Rattle.base58.proofs.writing.letters_of.Given as goal

abbrev pub invariant-loop-digit : goal.invariant-loop-digit
invariant-loop-digit l = l.text.items ≡ map letter (take l.digit-index l.digits)
