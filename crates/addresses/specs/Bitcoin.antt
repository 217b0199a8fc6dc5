-- Bitcoin's addresses of a public key of 33 bytes, on the main network.
use Rattle.std.specs.Prelude.{ℕ, List, ◌∷◌, codes}
use Rattle.hashes.specs.Digests.{hash160}
use Rattle.base58.specs.Base58.{base58check}
use Rattle.bech32.specs.Segwit.{address}

-- P2PKH: the hash of the key behind the version 0
abbrev pub p2pkh : List ℕ → List ℕ
p2pkh key = base58check (0 ∷ hash160 key)

-- the script of the witness program of version 0 that is the key's hash of 20 bytes (BIP-141, "P2WPKH nested in BIP16 P2SH")
abbrev pub witness_script : List ℕ → List ℕ
witness_script key = 0 ∷ 20 ∷ hash160 key

-- P2SH-P2WPKH (BIP-49): the hash of that script behind the version 5
abbrev pub p2sh_p2wpkh : List ℕ → List ℕ
p2sh_p2wpkh key = base58check (5 ∷ hash160 (witness_script key))

-- P2WPKH (BIP-84): the hash of the key as a witness program of version 0
abbrev pub p2wpkh : List ℕ → List ℕ
p2wpkh key = address (codes "bc") 0 (hash160 key)
