-- The lengths of a mnemonic and its parts (SLIP-0039, "Format of the share mnemonic", "Checksum", "Wordlist").
use Rattle.std.specs.Prelude.{ℕ, ◌+◌, ◌-◌, ◌*◌, ◌^◌, ◌<◌}
use Rattle.s39_kdf.specs.Limits.{id_bits, exponent_bits}

-- the number of bits that a word encodes
abbrev pub word_bits : ℕ
word_bits = 10

-- the number of words in the word list
abbrev pub word_list_length : ℕ
word_list_length = 2 ^ word_bits

-- the number of letters of the shortest word
abbrev pub shortest_word : ℕ
shortest_word = 4

-- the number of letters of the longest word
abbrev pub longest_word : ℕ
longest_word = 8

-- the number of first letters that distinguish a word from all others
abbrev pub telling_letters : ℕ
telling_letters = 4

-- the number of bits of a group or member index, of a threshold, and of the group count; thresholds and the count are
-- stored less one
abbrev pub count_bits : ℕ
count_bits = 4

-- the place of the extendable flag, which has one bit and follows the identifier; that stands at place 0
abbrev pub flag_place : ℕ
flag_place = id_bits

-- the place of the iteration exponent, which follows the flag
abbrev pub exponent_place : ℕ
exponent_place = flag_place + 1

-- the place of the group index, which follows the exponent
abbrev pub group_index_place : ℕ
group_index_place = exponent_place + exponent_bits

-- the place of the group threshold, which follows the group index
abbrev pub group_threshold_place : ℕ
group_threshold_place = group_index_place + count_bits

-- the place of the group count, which follows the group threshold
abbrev pub group_count_place : ℕ
group_count_place = group_threshold_place + count_bits

-- the place of the member index, which follows the group count
abbrev pub member_index_place : ℕ
member_index_place = group_count_place + count_bits

-- the place of the member threshold, which follows the member index
abbrev pub member_threshold_place : ℕ
member_threshold_place = member_index_place + count_bits

-- the number of bits of the fields before the value
abbrev pub header_length : ℕ
header_length = member_threshold_place + count_bits

-- the number of bits of two bytes; a value has an even number of bytes
abbrev pub byte_pair_bits : ℕ
byte_pair_bits = 16

-- the most groups of a backup
abbrev pub most_groups : ℕ
most_groups = 2 ^ count_bits

-- the most members of a group
abbrev pub most_members : ℕ
most_members = 2 ^ count_bits

-- the most bits of padding before the value
abbrev pub most_padding : ℕ
most_padding = 8

-- the number of words of a checksum
abbrev pub checksum_length : ℕ
checksum_length = 3

-- the fewest words of a mnemonic
abbrev pub fewest_words : ℕ
fewest_words = 20

-- the most words of a mnemonic
abbrev pub most_words : ℕ
most_words = 110

-- the most bytes of a mnemonic's printed form, in which a space stands between words
abbrev pub longest_text : ℕ
longest_text = most_words * longest_word + (most_words - 1)

-- this is an index in the word list
abbrev pub IsIndex : ℕ → Type 0
IsIndex index = index < word_list_length
