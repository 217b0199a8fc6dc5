-- What a wallet shows, read back from its text, or why a text is none of it. The order of causes is our own.
use Rattle.std.specs.Prelude.{ℕ, suc, Bool, true, false, ◌&&◌, ◌||◌, List, [], ◌∷◌, Option, Some, None, Result, Ok, Err, is_some, length, take, drop, codes, slice_index, nat_eq, nat_lt, if◌then◌else◌}
use Rattle.std.specs.Int.Digits.{number_from_digits}
use Rattle.std.specs.Str.{bytes_eq, str_to_ascii_lowercase}
use Rattle.hex.specs.declared.error.FromHexError.{FromHexError}
use Rattle.hex.specs.declared.error.FromHexError.TheVariants.{InvalidHexCharacter}
use Rattle.hex.specs.Hex.{decode_sized}
use Rattle.curve_points.specs.Lifted.{lift_x}
use Rattle.base58.specs.Reading as base58
use Rattle.base58.specs.declared.reading.Base58Error.{Base58Error}
use Rattle.base58.specs.declared.reading.Base58Error.TheVariants as base58_errors
use Rattle.bech32.specs.Reading as bech32
use Rattle.bech32.specs.declared.reading.AddressError.{AddressError}
use Rattle.bech32.specs.declared.reading.AddressError.TheVariants as bech32_errors
use Rattle.addresses.specs.declared.address.Address.TheVariants.{P2pkh, P2sh, P2wpkh, P2tr, Ethereum}
use Rattle.addresses.specs.Ethereum.{erc55}
use Rattle.accounts.specs.declared.shown.Shown.{Shown}
use Rattle.accounts.specs.declared.shown.Shown.TheVariants as shown
use Rattle.accounts.specs.declared.shown.ShownError.{ShownError}
use Rattle.accounts.specs.declared.shown.ShownError.TheVariants.{BadLetter, BadLength, MixedCase, BadChecksum, OtherNetwork, UnknownKind, PrivateKey, BadKey}

-- ---- extended keys (BIP-32, section "Serialization format"; SLIP-132)

-- the number in the first four bytes
abbrev pub version_of : List ℕ → ℕ
version_of payload = number_from_digits 256 (take 4 payload)

-- xpub, ypub, zpub
abbrev pub is_public : ℕ → Bool
is_public version = nat_eq version 0x0488B21E || nat_eq version 0x049D7CB2 || nat_eq version 0x04B24746

-- xprv, yprv, zprv, and tprv, uprv, vprv
abbrev pub is_private : ℕ → Bool
is_private version =
    nat_eq version 0x0488ADE4 || nat_eq version 0x049D7878 || nat_eq version 0x04B2430C
    || nat_eq version 0x04358394 || nat_eq version 0x044A4E28 || nat_eq version 0x045F18BC

-- tpub, upub, vpub
abbrev pub is_of_test_network : ℕ → Bool
is_of_test_network version = nat_eq version 0x043587CF || nat_eq version 0x044A5262 || nat_eq version 0x045F1CF6

-- a point in 33 bytes: 2 or 3, and the x of a point of the curve
abbrev pub is_sign : ℕ → Bool
is_sign byte = nat_eq byte 2 || nat_eq byte 3

abbrev pub is_point : List ℕ → Bool
is_point bytes = is_sign (slice_index bytes 0) && is_some (lift_x (number_from_digits 256 (drop 1 bytes)))

-- a master key has no parent's fingerprint and no child number
abbrev pub has_place : List ℕ → Bool
has_place payload = nat_lt 0 (slice_index payload 4) || nat_eq (number_from_digits 256 (take 8 (drop 5 payload))) 0

-- a public key: it has a place and a point
abbrev pub is_key : List ℕ → Bool
is_key payload = has_place payload && is_point (take 33 (drop 45 payload))

-- what 78 bytes are
abbrev pub key_in : List ℕ → Result Shown ShownError
key_in payload =
    if is_private (version_of payload) then Err PrivateKey
    else if is_of_test_network (version_of payload) then Err OtherNetwork
    else if is_public (version_of payload)
    then (if is_key payload then Ok (shown.PublicKey (record { bytes = payload })) else Err BadKey)
    else Err UnknownKind

-- ---- Base58Check

-- what 21 bytes are: a hash behind a version
abbrev pub hash_in : ℕ → List ℕ → Result Shown ShownError
hash_in version hash =
    if nat_eq version 0 then Ok (shown.Address (P2pkh hash))
    else if nat_eq version 5 then Ok (shown.Address (P2sh hash))
    else if nat_eq version 111 then Err OtherNetwork
    else if nat_eq version 196 then Err OtherNetwork
    else Err UnknownKind

abbrev pub payload_in : List ℕ → Result Shown ShownError
payload_in payload =
    if nat_eq (length payload) 78 then key_in payload
    else if nat_eq (length payload) 21 then hash_in (slice_index payload 0) (drop 1 payload)
    else Err UnknownKind

abbrev pub of_base58 : Base58Error → ShownError
of_base58 (base58_errors.BadLetter position) = BadLetter position
of_base58 base58_errors.BadLength = BadLength
of_base58 base58_errors.BadChecksum = BadChecksum

abbrev pub base58_or : Option Base58Error → List ℕ → Result Shown ShownError
base58_or (Some error) payload = Err (of_base58 error)
base58_or None payload = payload_in payload

abbrev pub base58_in : List ℕ → Result Shown ShownError
base58_in text = base58_or (base58.refusal_of text) (base58.payload_of text)

-- ---- witness programs

-- another network is told before an unknown kind
abbrev pub unknown_on : Bool → ShownError
unknown_on true = UnknownKind
unknown_on false = OtherNetwork

abbrev pub of_bech32 : Bool → AddressError → ShownError
of_bech32 main bech32_errors.BadLength = BadLength
of_bech32 main bech32_errors.MixedCase = MixedCase
of_bech32 main bech32_errors.BadPrefix = UnknownKind
of_bech32 main (bech32_errors.BadLetter position) = BadLetter position
of_bech32 main bech32_errors.BadChecksum = BadChecksum
of_bech32 main bech32_errors.BadVersion = unknown_on main
of_bech32 main bech32_errors.BadPadding = unknown_on main
of_bech32 main bech32_errors.BadProgram = unknown_on main

abbrev pub program_in : Bool → ℕ → List ℕ → Result Shown ShownError
program_in main version program =
    if main && (nat_eq version 0 && nat_eq (length program) 20) then Ok (shown.Address (P2wpkh program))
    else if main && (nat_eq version 1 && nat_eq (length program) 32) then Ok (shown.Address (P2tr program))
    else Err (unknown_on main)

abbrev pub witness_or : Bool → Option AddressError → ℕ → List ℕ → Result Shown ShownError
witness_or main (Some error) version program = Err (of_bech32 main error)
witness_or main None version program = program_in main version program

abbrev pub witness_in : Bool → List ℕ → List ℕ → Result Shown ShownError
witness_in main prefix text =
    witness_or main (bech32.refusal_of prefix text)
    (bech32.version_of (bech32.groups_behind prefix text)) (bech32.bytes_of (bech32.program_groups (bech32.groups_behind prefix text)))

-- ---- Ethereum's accounts

-- the digits are read behind "0x"
abbrev pub of_hex : FromHexError → ShownError
of_hex (InvalidHexCharacter c index) = BadLetter (suc (suc index))
of_hex _ = BadLength

abbrev pub account_or : List ℕ → Result (List ℕ) FromHexError → Result Shown ShownError
account_or text (Err error) = Err (of_hex error)
account_or text (Ok bytes) = if bytes_eq (erc55 bytes) text then Ok (shown.Address (Ethereum bytes)) else Err BadChecksum

abbrev pub account_in : List ℕ → Result Shown ShownError
account_in text = account_or text (decode_sized (drop 2 text) 20)

-- ---- all kinds

-- whether a text begins so
abbrev pub begins : List ℕ → List ℕ → Bool
begins [] text = true
begins (c ∷ front) [] = false
begins (c ∷ front) (d ∷ text) = nat_eq d c && begins front text

-- what a text that isn't eight hexadecimal digits is, by its first letters in lower case
abbrev pub by_front : List ℕ → List ℕ → Result Shown ShownError
by_front lower text =
    if begins (codes "0x") lower then account_in text
    else if begins (codes "bc1") lower then witness_in true (codes "bc") text
    else if begins (codes "tb1") lower then witness_in false (codes "tb") text
    else if begins (codes "bcrt1") lower then witness_in false (codes "bcrt") text
    else base58_in text

abbrev pub fingerprint_or : List ℕ → Result (List ℕ) FromHexError → Result Shown ShownError
fingerprint_or text (Ok bytes) = Ok (shown.Fingerprint bytes)
fingerprint_or text (Err _) = by_front (str_to_ascii_lowercase text) text

-- what a text shows: eight hexadecimal digits are a master fingerprint
unfoldable pub shown_in : List ℕ → Result Shown ShownError
shown_in text = fingerprint_or text (decode_sized text 4)
