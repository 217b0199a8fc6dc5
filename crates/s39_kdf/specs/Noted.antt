-- The fingerprint of a secret, as the secret's owner noted it.
use Rattle.std.specs.Prelude.{◌≡◌, ◌↔◌, ℕ, List, length, Bool, nat_eq, IsOk, IsTrue, ◌*◌, Result, Ok, Err}
use Rattle.std.specs.List.{AllPass}
use Rattle.std.specs.Cmp.Lexicographic.{pointwise}
use Rattle.hex.specs.declared.error.FromHexError.{FromHexError}
use Rattle.hex.specs.Hex.{decode_sized, encode_lower, encode_upper, is_hex_digit}
use Rattle.s39_kdf.specs.Fingerprint.{fingerprint_length, fingerprint_of}
use Rattle.s39_kdf.specs.declared.noted.NotedFingerprint.{NotedFingerprint}
use Rattle.s39_kdf.specs.declared.noted.BadFingerprint.{BadFingerprint}

-- whether a secret has this fingerprint
abbrev pub has_fingerprint : NotedFingerprint → List ℕ → Bool
has_fingerprint noted secret = pointwise nat_eq (fingerprint_of secret) noted.bytes

-- the fingerprint of these bytes, if a text writes them
abbrev pub noted_as : Result (List ℕ) FromHexError → Result NotedFingerprint BadFingerprint
noted_as (Ok bytes) = Ok (record { bytes = bytes })
noted_as (Err _) = Err (record {})

-- the fingerprint that a text writes: two hexadecimal digits for each byte, in either case
abbrev pub noted_in : List ℕ → Result NotedFingerprint BadFingerprint
noted_in text = noted_as (decode_sized text fingerprint_length)

-- just the texts of that many digits, in either case, write a fingerprint
abbrev pub DigitsWriteFingerprints : Type 0
DigitsWriteFingerprints = (text : List ℕ)
    → (IsOk (noted_in text) ↔ ((length text ≡ 2 * fingerprint_length) × AllPass is_hex_digit text))

-- the digits of a secret's fingerprint, in lower or in upper case, write this fingerprint
abbrev pub PrintedFingerprintsAreRead : Type 0
PrintedFingerprintsAreRead = (secret : List ℕ)
    → (noted_in (encode_lower (fingerprint_of secret)) ≡ Ok (record { bytes = fingerprint_of secret }))
    × (noted_in (encode_upper (fingerprint_of secret)) ≡ Ok (record { bytes = fingerprint_of secret }))

-- a secret has a fingerprint exactly if this is the secret's, in all its bytes
abbrev pub FingerprintsAreCompared : Type 0
FingerprintsAreCompared = (noted : NotedFingerprint) (secret : List ℕ)
    → (IsTrue (has_fingerprint noted secret) ↔ (noted.bytes ≡ fingerprint_of secret))
