-- The key of HMAC that a prepared key holds. No public contract cites this.
use Rattle.std.specs.Prelude.{ℕ, List}
use Rattle.sha2.specs.Hashers.{Holds256}
use Rattle.s39_kdf.specs.Hmac.{inner_pad, outer_pad}
use Rattle.s39_kdf.specs.declared.keyed_hash.PreparedKey.{PreparedKey}

-- the two hashers have taken the key's two padded blocks
abbrev pub HoldsKey : PreparedKey → List ℕ → Type 0
HoldsKey prepared key =
    Holds256 prepared.inner (inner_pad key) × Holds256 prepared.outer (outer_pad key)
