-- What can be read of the words of a mnemonic, and the mnemonics that fit.
use Rattle.std.specs.Prelude.{◌≡◌, ◌≢◌, ℕ, false, slice_index, slice_index_or, ◌-◌, ◌<◌, ◌≤◌, List, [], ◌∷◌, Bool, ◌||◌, ◌&&◌, nat_lt, nat_eq}
use Rattle.std.specs.Prelude.{bytes_eq, All, count_by, filter, length, map, take, Contains}
use Rattle.std.specs.List.{AllZip, ends_with, join_with_byte, range_with_len}
use Rattle.s39_words.specs.declared.prefix.WordRange.{WordRange}
use Rattle.s39_words.specs.declared.share.ShareFields.{ShareFields}
use Rattle.s39_words.specs.Layout.{word_list_length}
use Rattle.s39_words.specs.Prefix.{begins_with}
use Rattle.s39_words.specs.Printing.{listed_word}
use Rattle.s39_words.specs.Reading.{IsWordCount}
use Rattle.s39_words.specs.Spelling.{words_of, Spells}

-- whether a mark, in lower case, stands for a word: it is the word, or letters with which the word begins, and one
-- question mark
abbrev pub stands_for : List ℕ → List ℕ → Bool
stands_for mark word =
    bytes_eq mark word || (ends_with nat_eq mark (63 ∷ []) && begins_with (take (length mark - 1) mark) word)

-- the words of the list that pass a test, as indices
unfoldable pub listed_that : (List ℕ → Bool) → List ℕ
listed_that test = filter (λ index. test (listed_word index)) (range_with_len 0 word_list_length)

-- the words of the list for which a mark stands, as indices
abbrev pub choices : List ℕ → List ℕ
choices mark = listed_that (stands_for mark)

-- whether a mark stands for a word of the list
abbrev pub is_known : List ℕ → Bool
is_known mark = nat_lt 0 (length (choices mark))

-- whether it stands for more than one, so that its place is open
abbrev pub is_open : List ℕ → Bool
is_open mark = nat_lt 1 (length (choices mark))

-- the number of open places of a line
abbrev pub open_count : List ℕ → ℕ
open_count line = count_by is_open (words_of line)

-- the words at these indices, with single spaces between them
abbrev pub spelling : List ℕ → List ℕ
spelling indices = join_with_byte 32 (map listed_word indices)

-- The mnemonic of a share, given as the indices of its words, fits a line: the line has as many marks, and each word
-- is one for which the mark at its place stands.
pub record Fits (line mnemonic : List ℕ) (share : ShareFields) : Type 0 where
  pub words : AllZip (λ mark index. Contains (choices mark) index) (words_of line) mnemonic
  pub spells : Spells (spelling mnemonic) share

-- ---- ranges of words, in place of marks; no public contract cites these

-- the indices of a range
abbrev pub words_in : WordRange → List ℕ
words_in range = range_with_len range.first (range.end - range.first)

-- the range has a word, and is in the list
pub record IsRange (range : WordRange) : Type 0 where
  pub some : range.first < range.end
  pub in_list : range.end ≤ word_list_length

-- these are the ranges for which the marks of a line stand, and a mnemonic may have as many words
pub record AreMarks (line : List ℕ) (ranges : List WordRange) : Type 0 where
  pub same : map choices (words_of line) ≡ map words_in ranges
  pub all : All IsRange ranges
  pub count : IsWordCount (length ranges)

-- whether a range has more than one word
abbrev pub is_open_range : WordRange → Bool
is_open_range range = nat_lt 1 (range.end - range.first)

-- a mnemonic has as many words as there are ranges, and each is in the range at its place
pub record HasWords (ranges : List WordRange) (mnemonic : List ℕ) : Type 0 where
  pub same_count : length ranges ≡ length mnemonic
  pub each : (k : ℕ) (d : WordRange) → k < length ranges
      → ((slice_index_or ranges k d).first ≤ slice_index mnemonic k) × (slice_index mnemonic k < (slice_index_or ranges k d).end)

-- and it is the mnemonic of the share
pub record FitsRanges (ranges : List WordRange) (mnemonic : List ℕ) (share : ShareFields) : Type 0 where
  pub words : HasWords ranges mnemonic
  pub spells : Spells (spelling mnemonic) share

-- each range has one word, but at these places
abbrev pub IsClosedElsewhere : List WordRange → ℕ → ℕ → ℕ → Type 0
IsClosedElsewhere ranges i j k =
    (p : ℕ) (d : WordRange) → p < length ranges → p ≢ i → p ≢ j → p ≢ k → is_open_range (slice_index_or ranges p d) ≡ false

-- each range has one word
abbrev pub AreClosed : List WordRange → Type 0
AreClosed ranges = All (λ range. is_open_range range ≡ false) ranges
