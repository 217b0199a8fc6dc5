-- What a text in Base58Check writes, or why it writes nothing.
use Rattle.std.specs.Prelude.{◌≡◌, ℕ, ◌-◌, ◌<◌, ◌≤◌, List, All, Option, Some, None, length, take, drop, nat_eq, nat_le, nat_lt, if◌then◌else◌}
use Rattle.std.specs.List.{position_or_len}
use Rattle.std.specs.Cmp.Lexicographic.{pointwise}
use Rattle.base58.specs.Base58.{digit_of, decoded, checksum, base58check}
use Rattle.base58.specs.declared.reading.Base58Error.{Base58Error}
use Rattle.base58.specs.declared.reading.Base58Error.TheVariants.{BadLetter, BadLength, BadChecksum}

-- where the first letter is that isn't of the alphabet, or the length of the text
abbrev pub first_bad_letter : List ℕ → ℕ
first_bad_letter text = position_or_len (λ c. nat_le 58 (digit_of c)) text

-- the bytes that a text writes, but for the last four, and the last four
abbrev pub payload_of : List ℕ → List ℕ
payload_of text = take (length (decoded text) - 4) (decoded text)

abbrev pub checksum_of : List ℕ → List ℕ
checksum_of text = drop (length (decoded text) - 4) (decoded text)

-- why a text isn't read: the first of these causes that it has. The greatest length, of an extended key and its checksum, is our own.
abbrev pub refusal_of : List ℕ → Option Base58Error
refusal_of text =
    if nat_lt (first_bad_letter text) (length text) then Some (BadLetter (first_bad_letter text))
    else if nat_lt (length (decoded text)) 4 then Some BadLength
    else if nat_lt 82 (length (decoded text)) then Some BadLength
    else if pointwise nat_eq (checksum_of text) (checksum (payload_of text)) then None
    else Some BadChecksum

-- the text is read as these bytes
pub record IsRead (text payload : List ℕ) : Type 0 where
  pub not_refused : refusal_of text ≡ None
  pub payload_is : payload_of text ≡ payload

-- bytes in Base58Check
pub record IsText (text payload : List ℕ) : Type 0 where
  pub bytes : All (λ byte. byte < 256) payload
  pub short : length payload ≤ 78
  pub same : text ≡ base58check payload
