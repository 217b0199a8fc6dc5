-- A word as the code's table holds it: eight bytes, which are one number. No public contract cites this.
use Rattle.std.specs.Prelude.{ℕ, ◌-◌, ◌≤◌, List, ◌++◌, All, length, replicate, take}
use Rattle.std.specs.Int.{w64, from_be_bytes}
use Rattle.s39_words.specs.Layout.{longest_word}
use Rattle.s39_words.specs.WordList.{IsLetter}
use Rattle.s39_words.specs.Printing.{listed_word}

-- eight bytes can hold this word
pub record FitsRow (word : List ℕ) : Type 0 where
  pub letters : All IsLetter word
  pub short : length word ≤ longest_word

-- eight bytes that hold a word: its letters, then spaces
abbrev pub row_of : List ℕ → List ℕ
row_of word = word ++ replicate (longest_word - length word) 32

-- a row as one number, its first byte the highest
unfoldable pub number_of_row : List ℕ → ℕ
number_of_row row = from_be_bytes w64 row

-- as many first bytes of the row of the word at an index as there are letters
abbrev pub start_of : List ℕ → ℕ → List ℕ
start_of letters index = take (length letters) (row_of (listed_word index))
