-- The printed form of a share.
use Rattle.std.specs.Prelude.{◌≡◌, ℕ, List, [], slice_index_or}
use Rattle.std.specs.List.{join_with_byte}
use Rattle.s39_words.specs.declared.share.ShareFields.{ShareFields}
use Rattle.s39_words.specs.Spelling.{words_of, Spells}
use Rattle.s39_words.specs.WordList.{word_list}

-- the word at an index of the word list
abbrev pub listed_word : ℕ → List ℕ
listed_word index = slice_index_or word_list index []

-- The text is the spelling of the share with lower-case letters and single spaces: its words, joined by one space each.
pub record IsPrinted (text : List ℕ) (share : ShareFields) : Type 0 where
  pub spells : Spells text share
  pub single_spaces : text ≡ join_with_byte 32 (words_of text)
