-- The text of a witness program (BIP-173, BIP-350).
use Rattle.std.specs.Prelude.{ℕ, ◌*◌, ◌/◌, ◌%◌, ◌^◌, List, [], ◌∷◌, ◌++◌, map, fold, codes, slice_index, bit_xor, if◌then◌else◌, nat_eq}
use Rattle.std.specs.List.{position_or_len}
use Rattle.s39_lists.specs.Digits.{digits}
use Rattle.bech32.specs.Groups.{groups}

-- the constant at this bit of the five that leave the register
abbrev pub generator_if : ℕ → ℕ → ℕ → ℕ
generator_if top place constant = if nat_eq (top / place % 2) 1 then constant else 0

-- the register after one more value
unfoldable pub next : ℕ → ℕ → ℕ
next register value =
    let top : ℕ = register / 2 ^ 25 in
    bit_xor (bit_xor (bit_xor (bit_xor (bit_xor (bit_xor ((register % 2 ^ 25) * 32) value)
    (generator_if top 1 0x3b6a57b2)) (generator_if top 2 0x26508e6d)) (generator_if top 4 0x1ea119fa))
    (generator_if top 8 0x3d4233dd)) (generator_if top 16 0x2a1462b3)

-- the register after these values
abbrev pub polymod : List ℕ → ℕ
polymod values = fold next 1 values

-- the high bits of the characters of the human-readable part, 0, and the low bits
abbrev pub expanded : List ℕ → List ℕ
expanded prefix = map (λ c. c / 32) prefix ++ 0 ∷ map (λ c. c % 32) prefix

-- what the register of a text holds at the end: 1 for Bech32, which version 0 has, and another number for Bech32m
abbrev pub final_register : ℕ → ℕ
final_register version = if nat_eq version 0 then 1 else 0x2bc830a3

-- six groups
abbrev pub checksum : ℕ → List ℕ → List ℕ → List ℕ
checksum final prefix values = digits 5 6 (bit_xor (polymod (expanded prefix ++ values ++ 0 ∷ 0 ∷ 0 ∷ 0 ∷ 0 ∷ 0 ∷ [])) final)

-- the letters of the groups
abbrev pub letters : List ℕ
letters = codes "qpzry9x8gf2tvdw0s3jn54khce6mua7l"

abbrev pub letter : ℕ → ℕ
letter group = slice_index letters group

-- the group of a letter, or 32 if it is none's
unfoldable pub group_of : ℕ → ℕ
group_of character = position_or_len (λ l. nat_eq l character) letters

-- the text of values: the human-readable part, "1", and the values and the checksum as characters
abbrev pub bech32 : ℕ → List ℕ → List ℕ → List ℕ
bech32 final prefix values = prefix ++ 49 ∷ map letter (values ++ checksum final prefix values)

-- The address of a witness program. BIP-173 has human-readable parts of 1 to 83 characters from 33 to 126, in lower case: the caller
-- sees to this, and that there is such a program (BIP-141).
abbrev pub address : List ℕ → ℕ → List ℕ → List ℕ
address prefix version program = bech32 (final_register version) prefix (version ∷ groups program)
