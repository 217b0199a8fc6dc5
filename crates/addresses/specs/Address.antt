-- Addresses as data, and their texts on the main network.
use Rattle.std.specs.Prelude.{ℕ, List, ◌∷◌, ◌++◌, Option, Some, None, codes}
use Rattle.std.specs.Int.{bytes_high_first}
use Rattle.std.specs.Option.{option_map}
use Rattle.hashes.specs.Digests.{hash160}
use Rattle.curve_points.specs.declared.point.Affine.{Affine}
use Rattle.curve_points.specs.declared.point.Point.{Point}
use Rattle.curve_points.specs.declared.point.Point.TheVariants.{Infinity, Finite}
use Rattle.curve_points.specs.Compressed.{compressed}
use Rattle.base58.specs.Base58.{base58check}
use Rattle.bech32.specs.Segwit.{address}
use Rattle.addresses.specs.declared.address.Address.{Address}
use Rattle.addresses.specs.declared.address.Address.TheVariants.{P2pkh, P2sh, P2wpkh, P2tr, Ethereum}
use Rattle.addresses.specs.declared.address.Kind.{Kind}
use Rattle.addresses.specs.declared.address.Kind.TheVariants as kinds
use Rattle.addresses.specs.Bitcoin.{witness_script}
use Rattle.addresses.specs.Taproot.{output_key}
use Rattle.addresses.specs.Ethereum.{account, erc55}

-- both coordinates, of 32 bytes each
abbrev pub coordinates : Affine → List ℕ
coordinates a = bytes_high_first 32 a.x ++ bytes_high_first 32 a.y

-- the address of this kind of a public key: none if the key has no output key, or is infinity
abbrev pub address_at : Kind → Affine → Option Address
address_at kinds.P2pkh a = Some (P2pkh (hash160 (compressed (Finite a))))
address_at kinds.P2shP2wpkh a = Some (P2sh (hash160 (witness_script (compressed (Finite a)))))
address_at kinds.P2wpkh a = Some (P2wpkh (hash160 (compressed (Finite a))))
address_at kinds.P2tr a = option_map (λ key. P2tr key) (output_key (bytes_high_first 32 a.x))
address_at kinds.Ethereum a = Some (Ethereum (account (coordinates a)))

abbrev pub address_of : Kind → Point → Option Address
address_of kind Infinity = None
address_of kind (Finite a) = address_at kind a

-- the text of an address
abbrev pub text_of : Address → List ℕ
text_of (P2pkh hash) = base58check (0 ∷ hash)
text_of (P2sh hash) = base58check (5 ∷ hash)
text_of (P2wpkh hash) = address (codes "bc") 0 hash
text_of (P2tr key) = address (codes "bc") 1 key
text_of (Ethereum bytes) = erc55 bytes
