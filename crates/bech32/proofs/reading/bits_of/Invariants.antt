use Rattle.std.proofs.Common.{◌≡◌, ◌*◌, take}
use Rattle.s39_lists.specs.Digits.{number_of}
use Rattle.bech32.proofs.reading.bits_of.Given as goal

abbrev pub invariant-loop-group : goal.invariant-loop-group
invariant-loop-group l = l.bits ≡ record { count = 5 * l.group-index; number = number_of 5 (take l.group-index l.groups) }
