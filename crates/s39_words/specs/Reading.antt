-- The reading of a text: the share that it spells, or the first cause for which it spells none.
use Rattle.std.specs.Prelude.{◌≡◌, ℕ, suc, ◌+◌, ◌-◌, ◌*◌, ◌/◌, ◌%◌, ◌^◌, ◌≤◌, List, [], ◌∷◌, length, slice_index_or}
use Rattle.std.specs.Prelude.{Option, Some, None, Result, Ok, Err, Bool, not, ◌&&◌, ◌==◌, nat_lt, nat_le, if◌then◌else◌}
use Rattle.s39_refusal.specs.declared.cause.Cause.{Cause}
use Rattle.s39_refusal.specs.Causes.{cause}
use Rattle.s39_kdf.specs.Limits.{id_bits, exponent_bits, shortest_secret, longest_secret}
use Rattle.s39_words.specs.declared.share.ShareFields.{ShareFields}
use Rattle.s39_words.specs.declared.word_error.WordError.{WordError}
use Rattle.s39_words.specs.declared.word_error.WordError.TheVariants.{UnknownWord, WordCount, BadChecksum, BadPadding, GroupThreshold}
use Rattle.s39_words.specs.Layout.{word_bits, count_bits, byte_pair_bits, header_length, most_padding, checksum_length}
use Rattle.s39_words.specs.Layout.{flag_place, exponent_place, group_index_place, group_threshold_place, group_count_place}
use Rattle.s39_words.specs.Layout.{member_index_place, member_threshold_place}
use Rattle.s39_lists.specs.Digits.{digits, number_of}
use Rattle.s39_words.specs.Division.{has_valid_checksum}
use Rattle.s39_words.specs.WordList.{index_of}
use Rattle.s39_words.specs.Spelling.{words_of}

-- the number of bits of padding and value in a mnemonic of n words; they stand between the other fields and the checksum
abbrev pub value_field_length : ℕ → ℕ
value_field_length n = word_bits * (n - (header_length / word_bits + checksum_length))

-- the number of padding bits before the value, which has an even number of bytes
abbrev pub padding_length : ℕ → ℕ
padding_length n = value_field_length n % byte_pair_bits

-- a mnemonic may have n words: the padding isn't too long, and the value is as long as a master secret may be
pub record IsWordCount (n : ℕ) : Type 0 where
  pub padding : padding_length n ≤ most_padding
  pub at_least : padding_length n + 8 * shortest_secret ≤ value_field_length n
  pub at_most : value_field_length n ≤ padding_length n + 8 * longest_secret

-- whether a mnemonic may have n words
abbrev pub has_word_count : ℕ → Bool
has_word_count n =
    nat_le (padding_length n) most_padding
    && nat_le (padding_length n + 8 * shortest_secret) (value_field_length n)
    && nat_le (value_field_length n) (padding_length n + 8 * longest_secret)

-- the number in `width` bits of these words, from this place on: their number without the bits behind and before
abbrev pub number_at : List ℕ → ℕ → ℕ → ℕ
number_at indices place width = number_of word_bits indices / 2 ^ (word_bits * length indices - place - width) % 2 ^ width

-- the extendable flag, which stands right before the exponent at the end of its word
abbrev pub flag_of : List ℕ → Bool
flag_of indices = slice_index_or indices (flag_place / word_bits) 0 / 2 ^ exponent_bits % 2 == 1

-- the group threshold as it is stored, less one
abbrev pub stored_group_threshold : List ℕ → ℕ
stored_group_threshold indices = number_at indices group_threshold_place count_bits

-- the group count as it is stored, less one
abbrev pub stored_group_count : List ℕ → ℕ
stored_group_count indices = number_at indices group_count_place count_bits

-- the padding bits, which stand right before the value, as one number
abbrev pub padding_of : List ℕ → ℕ
padding_of indices = number_at indices header_length (padding_length (length indices))

-- the number of bytes of the value in a mnemonic of n words
abbrev pub byte_count : ℕ → ℕ
byte_count n = (value_field_length n - padding_length n) / 8

-- the bytes of the value, which follow the padding
abbrev pub share_value_at : List ℕ → List ℕ
share_value_at indices =
    let bytes = byte_count (length indices) in
    digits 8 bytes (number_at indices (header_length + padding_length (length indices)) (8 * bytes))

-- the fields in these words
abbrev pub fields_at : List ℕ → ShareFields
fields_at indices = record {
  id = number_at indices 0 id_bits;
  extendable = flag_of indices;
  exponent = number_at indices exponent_place exponent_bits;
  group_index = number_at indices group_index_place count_bits;
  group_threshold = stored_group_threshold indices + 1;
  group_count = stored_group_count indices + 1;
  member_index = number_at indices member_index_place count_bits;
  member_threshold = number_at indices member_threshold_place count_bits + 1;
  value = record { items = share_value_at indices };
}

-- ---- the reading of a text

-- an index and those of the later words; without an index, the word has this position among all
abbrev pub with_first : Option ℕ → ℕ → Result (List ℕ) WordError → Result (List ℕ) WordError
with_first None position later = Err (UnknownWord position)
with_first (Some index) position (Ok indices) = Ok (index ∷ indices)
with_first (Some index) position (Err error) = Err error

-- the indices of words in the word list, or the position of the first that isn't in the list; the first of these words
-- has this position
abbrev pub indices_from : ℕ → List (List ℕ) → Result (List ℕ) WordError
indices_from position [] = Ok []
indices_from position (word ∷ words) = with_first (index_of word) position (indices_from (suc position) words)

-- what words of the list are read as, which have these indices
abbrev pub reading_of : List ℕ → Result ShareFields WordError
reading_of indices =
    if not (has_word_count (length indices)) then Err (WordCount (length indices))
    else if not (has_valid_checksum (flag_of indices) indices) then Err BadChecksum
    else if not (padding_of indices == 0) then Err BadPadding
    else if nat_lt (stored_group_count indices) (stored_group_threshold indices) then Err GroupThreshold
    else Ok (fields_at indices)

-- the reading of words, if they have indices
abbrev pub reading_if_known : Result (List ℕ) WordError → Result ShareFields WordError
reading_if_known (Ok indices) = reading_of indices
reading_if_known (Err error) = Err error

-- the reading of words
unfoldable pub reading_of_words : List (List ℕ) → Result ShareFields WordError
reading_of_words words = reading_if_known (indices_from 1 words)

-- the reading of a text: the share that it spells, or the first cause for which it spells none
abbrev pub reading : List ℕ → Result ShareFields WordError
reading text = reading_of_words (words_of text)

-- this is the reading of the text
abbrev pub Reads : List ℕ → Result ShareFields WordError → Type 0
Reads text result = reading text ≡ result

-- the contents of each refusal
abbrev pub cause_of : WordError → Cause
cause_of (UnknownWord position) = cause 11 position 0
cause_of (WordCount words) = cause 12 words 0
cause_of BadChecksum = cause 13 0 0
cause_of BadPadding = cause 14 0 0
cause_of GroupThreshold = cause 15 0 0
