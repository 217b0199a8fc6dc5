use Rattle.std.proofs.Common.{◌≡◌, take}
use Rattle.s39_words.specs.Reading.{share_value_at}
use Rattle.s39_words.proofs.packing.value_of.Given as goal

abbrev pub invariant-loop-i : goal.invariant-loop-i
invariant-loop-i l = l.value.items ≡ take l.i (share_value_at l.words)
