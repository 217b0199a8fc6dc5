-- Digests of digests.
use Rattle.std.specs.Prelude.{ℕ, List, ◌++◌}
use Rattle.sha2.specs.Sha256.{sha256}
use Rattle.hashes.specs.Ripemd160.{ripemd160}

-- HASH256 of Bitcoin
abbrev pub double_sha256 : List ℕ → List ℕ
double_sha256 message = sha256 (sha256 message)

-- HASH160 of Bitcoin
abbrev pub hash160 : List ℕ → List ℕ
hash160 message = ripemd160 (sha256 message)

-- the tagged hash of BIP-340, section "Design"
abbrev pub tagged_hash : List ℕ → List ℕ → List ℕ
tagged_hash tag message = sha256 ((sha256 tag ++ sha256 tag) ++ message)
