use Rattle.std.proofs.Common.{List, ℕ, ◌++◌, take}
use Rattle.sha2.specs.Hashers.{Holds256}
use Rattle.s39_kdf.specs.Bytes.{joined_parts}
use Rattle.s39_kdf.proofs.keyed_hash.absorb.Given as goal

abbrev pub invariant-loop-part : goal.invariant-loop-part
invariant-loop-part l = (m : List ℕ) → Holds256 l.initial.hasher m
    → Holds256 l.hasher (m ++ joined_parts (take l.part-index l.parts))
