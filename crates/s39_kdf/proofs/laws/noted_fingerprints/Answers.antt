use Rattle.std.proofs.Common.{◌≡◌, ℕ, ◌*◌, ◌<◌, List, [], length, take, codes, slice_index, refl, sym, ap, ◌∙◌, arith, true}
use Rattle.std.proofs.Common.{inl, inr, Result, Ok, Err, IsOk, IsTrue, ◌↔◌, All}
use Rattle.std.specs.List.{AllPass}
use Rattle.std.specs.Cmp.Lexicographic.{bytes_decides}
use Rattle.std.proofs.lemmas.List.{get_or_past, length-take-le}
use Rattle.std.proofs.lemmas.List.Elements.{All-take}
use Rattle.std.proofs.lemmas.Bool.{cases_lt}
use Rattle.hex.specs.declared.error.FromHexError.{FromHexError}
use Rattle.hex.specs.Hex.{decode_sized, encode_lower, encode_upper, is_hex_digit, upper_digits, IsBytes}
use Rattle.hex.proofs.HexLemmas.{IsOk-decode_sized, decode_sized-encode_lower, decode_sized-twice, decode_of-encode_upper, length-encode_with}
use Rattle.s39_kdf.specs.Bytes.{AreBytes}
use Rattle.s39_kdf.specs.Hmac.{hmac}
use Rattle.s39_kdf.specs.Fingerprint.{fingerprint_length, fingerprint_of}
use Rattle.s39_kdf.specs.Noted.{noted_as, noted_in, has_fingerprint}
use Rattle.s39_kdf.specs.declared.noted.NotedFingerprint.{NotedFingerprint}
use Rattle.s39_kdf.proofs.ByteValues.{AreBytes-hmac}
use Rattle.s39_kdf.proofs.Lengths.{length-hmac}
use Rattle.s39_kdf.proofs.laws.noted_fingerprints.Goals as goal

read_if_decoded : (read : Result (List ℕ) FromHexError) → (IsOk (noted_as read) ↔ IsOk read)
read_if_decoded (Ok bytes) = (λ is. is, λ is. is)
read_if_decoded (Err error) = (λ is. is, λ is. is)

pub returns-clause-digits : goal.returns-clause-digits
returns-clause-digits c text =
    let same = read_if_decoded (decode_sized text fingerprint_length) in
    let decoded = IsOk-decode_sized text fingerprint_length in
    (λ is. decoded.0 (same.0 is), λ digits. same.1 (decoded.1 digits))

-- the elements of a list of bytes, and the 0 that stands for those after them
each_byte : (bytes : List ℕ) → AreBytes bytes → IsBytes bytes
each_byte bytes are i =
    elim (cases_lt i (length bytes)) [
      | inl below ↦ are i 0 below
      | inr after ↦ (let past : slice_index bytes i ≡ 0 = get_or_past bytes i 0 after in omega (arith, past))
    ]

module _ (secret : List ℕ) where
  abbrev mac : List ℕ
  mac = hmac (codes "shamir fingerprint") secret

  four : length (fingerprint_of secret) ≡ fingerprint_length
  four = length-take-le fingerprint_length mac (let long = length-hmac (codes "shamir fingerprint") secret in omega (arith, long))

  bytes : IsBytes (fingerprint_of secret)
  bytes = each_byte (fingerprint_of secret) (All-take (λ byte. byte < 256) fingerprint_length mac (AreBytes-hmac (codes "shamir fingerprint") secret))

pub returns-clause-printed : goal.returns-clause-printed
returns-clause-printed c secret =
    let f = fingerprint_of secret in
    let digits = length-encode_with upper_digits f in
    let length_is = four secret in
    let upper : decode_sized (encode_upper f) fingerprint_length ≡ Ok f =
    decode_sized-twice (encode_upper f) fingerprint_length (omega (arith, digits, length_is)) ∙ decode_of-encode_upper f (bytes secret) in
    (ap noted_as (decode_sized-encode_lower f fingerprint_length length_is (bytes secret)), ap noted_as upper)

pub returns-clause-compared : goal.returns-clause-compared
returns-clause-compared c noted secret =
    let decides = bytes_decides (fingerprint_of secret) noted.bytes in
    (λ is. sym (decides.0 (cc is)), λ same. cc (decides.1 (sym same)))
