use Rattle.std.proofs.Common.{List, ℕ, ◌++◌, take}
use Rattle.sha2.specs.Hashers.{Holds512}
use Rattle.s39_kdf.specs.Bytes.{joined_parts}
use Rattle.hashes.proofs.keyed_hash.absorb.Given as goal

abbrev pub invariant-loop-part : goal.invariant-loop-part
invariant-loop-part l = (m : List ℕ) → Holds512 l.initial.hasher m
    → Holds512 l.hasher (m ++ joined_parts (take l.part-index l.parts))
