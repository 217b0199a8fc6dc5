-- A line in which words can be read in part.
use Rattle.std.specs.Prelude.{◌≡◌, ℕ, List, [], ◌∷◌, ◌++◌, Option, Some, None, count_by, is_some, length, map, take, zip}
use Rattle.s39_words.specs.Printing.{listed_word}
use Rattle.s39_words.specs.Spelling.{words_of}

-- what is written for a word, given by its index: the word, or so many of its first letters and a question mark
abbrev pub mark_of : ℕ → Option ℕ → List ℕ
mark_of index None = listed_word index
mark_of index (Some letters) = take letters (listed_word index) ++ 63 ∷ []

-- what is written for each of these words
abbrev pub marks_of : List ℕ → List (Option ℕ) → List (List ℕ)
marks_of words read = map (λ place. mark_of place.0 place.1) (zip words read)

-- The line has these words. Of some of them, only so many letters are read.
pub record IsReadAs (line words : List ℕ) (read : List (Option ℕ)) : Type 0 where
  pub marks : words_of line ≡ marks_of words read
  pub same_count : length read ≡ length words

-- the number of words of which only letters are read
abbrev pub unread_count : List (Option ℕ) → ℕ
unread_count read = count_by is_some read
