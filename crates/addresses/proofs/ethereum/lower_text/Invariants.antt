use Rattle.std.proofs.Common.{◌≡◌, take, map}
use Rattle.addresses.specs.Ethereum.{lower}
use Rattle.addresses.proofs.ethereum.lower_text.Given as goal

abbrev pub invariant-loop-figure : goal.invariant-loop-figure
invariant-loop-figure l = l.text.items ≡ map lower (take l.figure-index l.figures)
