use Rattle.std.proofs.Common.{◌≡◌, drop}
use Rattle.bip32.specs.Paths.{at}
use Rattle.bip32.proofs.extended_key.ExtendedKey.at.Given as goal

-- The rest of the path leads to where the whole one does.
abbrev pub invariant-loop-index : goal.invariant-loop-index
invariant-loop-index l = at l.key (drop l.index-index l.path) ≡ at l.self l.path
