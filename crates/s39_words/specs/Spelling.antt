-- The text of a mnemonic, and the share that it spells.
use Rattle.std.specs.Prelude.{◌≡◌, ℕ, List, ◌++◌, Bool, ◌||◌, ◌==◌, nat_lt, length, map, filter, Some}
use Rattle.std.specs.List.{slice_split}
use Rattle.std.specs.Str.{str_to_ascii_lowercase}
use Rattle.s39_words.specs.declared.share.ShareFields.{ShareFields}
use Rattle.s39_words.specs.Layout.{checksum_length}
use Rattle.s39_words.specs.Share.{IsShare, data_words}
use Rattle.s39_words.specs.Checksum.{IsValidChecksum}
use Rattle.s39_words.specs.WordList.{index_of}

-- whether a byte is a space, a tab or a carriage return
abbrev pub is_separator : ℕ → Bool
is_separator b = b == 32 || b == 9 || b == 13

-- the words of a text: its maximal runs of bytes that aren't separators, with ASCII capitals in lower case
abbrev pub words_of : List ℕ → List (List ℕ)
words_of text = filter (λ word. nat_lt 0 (length word)) (slice_split is_separator (str_to_ascii_lowercase text))

-- all words are in the word list, at these indices
abbrev pub HaveIndices : List (List ℕ) → List ℕ → Type 0
HaveIndices words indices = map index_of words ≡ map Some indices

-- The text spells the share: its words are those of the share's data words and of a valid checksum.
pub record Spells (text : List ℕ) (share : ShareFields) : Type 0 where
  pub is_share : IsShare share
  pub checksum : List ℕ
  pub checksum_words : length checksum ≡ checksum_length
  pub words : HaveIndices (words_of text) (data_words share ++ checksum)
  pub valid : IsValidChecksum share.extendable (data_words share ++ checksum)
