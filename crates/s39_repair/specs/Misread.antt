-- A mnemonic and a line in which some of its words are open or misread.
use Rattle.std.specs.Prelude.{◌≡◌, ◌≢◌, ℕ, false, ◌<◌, ◌≤◌, List, [], None, Bool, ◌||◌, All, count_by, not, length, slice_index, slice_index_or, zip}
use Rattle.s39_words.specs.declared.share.ShareFields.{ShareFields}
use Rattle.s39_words.specs.Layout.{IsIndex}
use Rattle.s39_words.specs.Printing.{listed_word}
use Rattle.s39_words.specs.Spelling.{words_of, Spells}
use Rattle.s39_repair.specs.Answer.{first_unknown, most_open, IsWhole}
use Rattle.s39_repair.specs.Marks.{is_open, spelling, stands_for}

-- whether a mark doesn't stand for the word with this index
abbrev pub is_misread : List ℕ → ℕ → Bool
is_misread mark index = not (stands_for mark (listed_word index))

-- or is open
abbrev pub is_doubtful : List ℕ → ℕ → Bool
is_doubtful mark index = is_open mark || is_misread mark index

-- the number of places whose mark and word pass a test
abbrev pub count_of_places : (List ℕ → ℕ → Bool) → List (List ℕ) → List ℕ → ℕ
count_of_places test marks words = count_by (λ place. test place.0 place.1) (zip marks words)

-- The line says another thing than the mnemonic of the share in some places, and at most three are misread or open. Each
-- mark stands for a word, and the second for that of the mnemonic alone.
pub record IsMisreadLine (line mnemonic : List ℕ) (share : ShareFields) : Type 0 where
  pub in_list : All IsIndex mnemonic
  pub spells : Spells (spelling mnemonic) share
  pub same_count : length (words_of line) ≡ length mnemonic
  pub known : first_unknown line ≡ None
  pub some : 1 ≤ count_of_places is_misread (words_of line) mnemonic
  pub few : count_of_places is_doubtful (words_of line) mnemonic ≤ most_open
  pub second : is_doubtful (slice_index_or (words_of line) 1 []) (slice_index mnemonic 1) ≡ false

-- Each mark of a line stands for one word. They are the words of the share's mnemonic, but at two places at most.
pub record HasWrongWords (line words mnemonic : List ℕ) (share : ShareFields) (place other : ℕ) : Type 0 where
  pub whole : IsWhole line words
  pub in_list : All IsIndex mnemonic
  pub spells : Spells (spelling mnemonic) share
  pub same_count : length words ≡ length mnemonic
  pub first_within : place < length words
  pub second_within : other < length words
  pub elsewhere : (p : ℕ) → p ≢ place → p ≢ other → slice_index words p ≡ slice_index mnemonic p
