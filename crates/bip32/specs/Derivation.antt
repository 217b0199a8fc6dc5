-- Extended private keys: BIP-32, sections "Master key generation" and "Private parent key → private child key".
use Rattle.std.specs.Prelude.{ℕ, ◌+◌, ◌%◌, List, ◌∷◌, ◌++◌, take, drop, Option, Some, None, nat_lt, nat_eq, if◌then◌else◌, codes}
use Rattle.std.specs.Int.{bytes_high_first, to_be_bytes, w32}
use Rattle.std.specs.Int.Digits.{number_from_digits}
use Rattle.hashes.specs.Hmac.{hmac_sha512}
use Rattle.curve_field.specs.Order.{order}
use Rattle.curve_points.specs.Multiples.{public_point}
use Rattle.curve_points.specs.Compressed.{compressed}
use Rattle.bip32.specs.declared.extended_key.ExtendedKey.{ExtendedKey}

-- ser_P(point(k))
abbrev pub public_bytes : ℕ → List ℕ
public_bytes key = compressed (public_point key)

-- parse_256(I_L), where I is 64 bytes
abbrev pub left_number : List ℕ → ℕ
left_number mac = number_from_digits 256 (take 32 mac)

-- parse_256(I_L) + k modulo n
abbrev pub sum_with : ℕ → List ℕ → ℕ
sum_with other mac = (left_number mac + other) % order

-- The key of parse_256(I_L) + k and the chain code I_R. There is none if parse_256(I_L) isn't below n, or the sum is 0.
unfoldable pub key_from : ℕ → List ℕ → Option ExtendedKey
key_from other mac =
    if nat_lt (left_number mac) order
    then (if nat_eq (sum_with other mac) 0
    then None
    else Some (record { key = sum_with other mac; chain_code = drop 32 mac }))
    else None

-- the master key of a seed: nothing is added to parse_256(I_L)
abbrev pub master : List ℕ → Option ExtendedKey
master seed = key_from 0 (hmac_sha512 (codes "Bitcoin seed") seed)

-- Data: a hardened child, whose index is 2^31 or more, is made of the private key, and a normal one of the public key
abbrev pub child_data : ℕ → ℕ → List ℕ
child_data key index =
    if nat_lt index 0x80000000
    then public_bytes key ++ to_be_bytes w32 index
    else (0 ∷ bytes_high_first 32 key) ++ to_be_bytes w32 index

-- CKDpriv
abbrev pub child : ExtendedKey → ℕ → Option ExtendedKey
child parent index = key_from parent.key (hmac_sha512 parent.chain_code (child_data parent.key index))
