-- A share, and its data words (SLIP-0039, "Format of the share mnemonic").
use Rattle.std.specs.Prelude.{ℕ, ◌+◌, ◌-◌, ◌*◌, ◌/◌, ◌^◌, ◌<◌, ◌≤◌, List, [], ◌∷◌, Bool, length, fold, if◌then◌else◌}
use Rattle.s39_kdf.specs.Bytes.{AreBytes}
use Rattle.s39_kdf.specs.Limits.{IsSecretLength, id_bits, exponent_bits}
use Rattle.s39_words.specs.declared.share.ShareFields.{ShareFields}
use Rattle.s39_words.specs.Layout.{count_bits, header_length, most_groups, most_members, word_bits}
use Rattle.s39_lists.specs.Digits.{digits, number_of}

-- these are bytes, as many as a master secret may have
pub record IsValue (value : List ℕ) : Type 0 where
  pub bytes : AreBytes value
  pub count : IsSecretLength (length value)

-- these are the fields of a share, all in their ranges, so that it can be printed and read
pub record IsShare (f : ShareFields) : Type 0 where
  pub id : f.id < 2 ^ id_bits
  pub exponent : f.exponent < 2 ^ exponent_bits
  pub group_index : f.group_index < most_groups
  pub group_threshold : 1 ≤ f.group_threshold
  pub threshold_in_count : f.group_threshold ≤ f.group_count
  pub group_count : f.group_count ≤ most_groups
  pub member_index : f.member_index < most_members
  pub member_threshold : 1 ≤ f.member_threshold
  pub member_threshold_in_range : f.member_threshold ≤ most_members
  pub value : IsValue f.value.items

-- 1 for a flag that is set
abbrev pub flag_bit : Bool → ℕ
flag_bit flag = if flag then 1 else 0

-- the fields of a share before its value, each with its number of bits; thresholds and the group count are stored less one
abbrev pub header_fields : ShareFields → List (ℕ × ℕ)
header_fields f =
    (id_bits, f.id) ∷ (1, flag_bit f.extendable) ∷ (exponent_bits, f.exponent) ∷ (count_bits, f.group_index)
    ∷ (count_bits, f.group_threshold - 1) ∷ (count_bits, f.group_count - 1) ∷ (count_bits, f.member_index)
    ∷ (count_bits, f.member_threshold - 1) ∷ []

-- the number whose bits are those of a number and, behind them, those of a field
abbrev pub with_field : ℕ → ℕ × ℕ → ℕ
with_field number field = number * 2 ^ field.0 + field.1

-- the fields before the value as one number
abbrev pub header_number : ShareFields → ℕ
header_number f = fold with_field 0 (header_fields f)

-- the number of words of a value of so many bytes: the fewest that hold its bits
abbrev pub value_words : ℕ → ℕ
value_words bytes = (8 * bytes + (word_bits - 1)) / word_bits

-- All fields except the checksum as one number. The value stands at the end of its words; the bits of padding before it
-- are 0.
abbrev pub share_number : ShareFields → ℕ
share_number f = with_field (header_number f) (word_bits * value_words (length f.value.items), number_of 8 f.value.items)

-- that number in base 1,024
abbrev pub data_words : ShareFields → List ℕ
data_words f = digits word_bits (header_length / word_bits + value_words (length f.value.items)) (share_number f)
