-- What the text of an address is of, or why it is of nothing (BIP-173, BIP-350; BIP-141 for witness programs).
use Rattle.std.specs.Prelude.{◌≡◌, ℕ, ◌+◌, ◌-◌, ◌*◌, ◌/◌, ◌%◌, ◌^◌, ◌≤◌, ◌⊎◌, Bool, not, ◌||◌, List, [], ◌∷◌, ◌++◌, All, Option, Some, None, length}
use Rattle.std.specs.Prelude.{map, take, drop, slice_index, nat_eq, nat_le, nat_lt, if◌then◌else◌}
use Rattle.std.specs.List.{position_or_len}
use Rattle.std.specs.Str.{bytes_eq, str_to_ascii_lowercase, str_to_ascii_uppercase}
use Rattle.s39_lists.specs.Digits.{digits, number_of}
use Rattle.bech32.specs.Groups.{IsByte}
use Rattle.bech32.specs.Segwit.{group_of, polymod, expanded, final_register, address}
use Rattle.bech32.specs.declared.reading.AddressError.{AddressError}
use Rattle.bech32.specs.declared.reading.AddressError.TheVariants.{BadLength, MixedCase, BadPrefix, BadLetter, BadChecksum, BadVersion, BadPadding, BadProgram}

-- a text in lower case, and what is behind the human-readable part and "1"
abbrev pub lower : List ℕ → List ℕ
lower text = str_to_ascii_lowercase text

abbrev pub letters_behind : List ℕ → List ℕ → List ℕ
letters_behind prefix text = drop (length prefix + 1) (lower text)

abbrev pub groups_behind : List ℕ → List ℕ → List ℕ
groups_behind prefix text = map group_of (letters_behind prefix text)

-- where the first letter is that isn't of the alphabet, or how many letters there are
abbrev pub first_bad_letter : List ℕ → ℕ
first_bad_letter letters = position_or_len (λ c. nat_le 32 (group_of c)) letters

-- the first group is the version, and the last six are the checksum
abbrev pub version_of : List ℕ → ℕ
version_of groups = slice_index groups 0

abbrev pub program_groups : List ℕ → List ℕ
program_groups groups = drop 1 (take (length groups - 6) groups)

-- how many whole bytes groups have, how many bits are behind them, and both
abbrev pub whole_bytes : List ℕ → ℕ
whole_bytes groups = 5 * length groups / 8

abbrev pub left_over : List ℕ → ℕ
left_over groups = 5 * length groups % 8

abbrev pub bytes_of : List ℕ → List ℕ
bytes_of groups = digits 8 (whole_bytes groups) (number_of 5 groups / 2 ^ left_over groups)

abbrev pub padding_of : List ℕ → ℕ
padding_of groups = number_of 5 groups % 2 ^ left_over groups

-- why groups are no program of this version: the first of these causes that they have
unfoldable pub program_refusal : ℕ → List ℕ → Option AddressError
program_refusal version groups =
    if nat_lt 16 version then Some BadVersion
    else if nat_lt 4 (left_over groups) then Some BadPadding
    else if nat_lt 0 (padding_of groups) then Some BadPadding
    else if nat_lt (whole_bytes groups) 2 then Some BadProgram
    else if nat_lt 40 (whole_bytes groups) then Some BadProgram
    else if nat_lt 0 version then None
    else if nat_eq (whole_bytes groups) 20 then None
    else if nat_eq (whole_bytes groups) 32 then None
    else Some BadProgram

-- why groups are no address: the checksum is looked at first
unfoldable pub groups_refusal : List ℕ → List ℕ → Option AddressError
groups_refusal prefix groups =
    if nat_eq (polymod (expanded prefix ++ groups)) (final_register (version_of groups))
    then program_refusal (version_of groups) (program_groups groups)
    else Some BadChecksum

-- why the letters behind the human-readable part make no address: a letter that isn't of the alphabet is looked for first
unfoldable pub letters_refusal : List ℕ → List ℕ → Option AddressError
letters_refusal prefix letters =
    if nat_lt (first_bad_letter letters) (length letters) then Some (BadLetter (length prefix + 1 + first_bad_letter letters))
    else groups_refusal prefix (map group_of letters)

-- whether a text has one case, and begins with the human-readable part and "1"
abbrev pub has_one_case : List ℕ → Bool
has_one_case text = bytes_eq (lower text) text || bytes_eq (str_to_ascii_uppercase text) text

abbrev pub has_prefix : List ℕ → List ℕ → Bool
has_prefix prefix text = bytes_eq (take (length prefix + 1) (lower text)) (prefix ++ 49 ∷ [])

-- why a text is no address with this human-readable part: the first cause that it has
unfoldable pub refusal_of : List ℕ → List ℕ → Option AddressError
refusal_of prefix text =
    if nat_lt 90 (length text) then Some BadLength
    else if nat_lt (length text) (length prefix + 8) then Some BadLength
    else if not (has_one_case text) then Some MixedCase
    else if not (has_prefix prefix text) then Some BadPrefix
    else letters_refusal prefix (letters_behind prefix text)

-- a witness program of this version
pub record IsProgram (version : ℕ) (program : List ℕ) : Type 0 where
  pub version_most : version ≤ 16
  pub bytes : All IsByte program
  pub least : 2 ≤ length program
  pub most : length program ≤ 40
  pub first_version : version ≡ 0 → (length program ≡ 20) ⊎ (length program ≡ 32)

-- The text is the address of the program, with no letter in upper case or none in lower case.
pub record IsAddress (prefix text : List ℕ) (version : ℕ) (program : List ℕ) : Type 0 where
  pub is_program : IsProgram version program
  pub lower_is : lower text ≡ address prefix version program
  pub one_case : (lower text ≡ text) ⊎ (str_to_ascii_uppercase text ≡ text)

-- the text is read as this version and program
pub record IsRead (prefix text : List ℕ) (version : ℕ) (program : List ℕ) : Type 0 where
  pub not_refused : refusal_of prefix text ≡ None
  pub version_is : version_of (groups_behind prefix text) ≡ version
  pub program_is : bytes_of (program_groups (groups_behind prefix text)) ≡ program
