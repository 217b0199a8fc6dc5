-- Fingerprints of keys: BIP-32, section "Key identifiers".
use Rattle.std.specs.Prelude.{ℕ, List, take}
use Rattle.hashes.specs.Digests.{hash160}
use Rattle.bip32.specs.Derivation.{public_bytes}

-- the first 32 bits of the identifier, which is HASH160 of the public key
abbrev pub fingerprint : ℕ → List ℕ
fingerprint key = take 4 (hash160 (public_bytes key))
