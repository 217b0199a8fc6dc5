use Rattle.std.proofs.Common.{◌≡◌, ℕ, List}
use Rattle.s39_kdf.specs.Bytes.{joined_parts}
use Rattle.s39_kdf.specs.PreparedKey.{HoldsKey}
use Rattle.s39_kdf.specs.Pbkdf2.{iterate, block}
use Rattle.s39_kdf.proofs.key_derivation.block.Given as goal

abbrev pub invariant-iterations : goal.invariant-iterations
invariant-iterations l = (password : List ℕ) → HoldsKey l.key password
    → (l.iterate ≡ iterate password (joined_parts l.salt) l.number l.k)
    × (l.sum ≡ block password (joined_parts l.salt) l.number l.k)
