use Rattle.std.proofs.Common.{◌≡◌, take, map}
use Rattle.bech32.specs.Segwit.{group_of}
use Rattle.bech32.proofs.reading.groups_of.Given as goal

abbrev pub invariant-loop-letter : goal.invariant-loop-letter
invariant-loop-letter l = l.groups.items ≡ map group_of (take l.letter-index l.letters)
