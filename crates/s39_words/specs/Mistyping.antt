-- A mnemonic with some wrong words.
use Rattle.std.specs.Prelude.{◌≡◌, ℕ, suc, ◌≤◌, List, [], ◌∷◌, All, length, ◌==◌, if◌then◌else◌}
use Rattle.s39_words.specs.Layout.{IsIndex}
use Rattle.s39_words.specs.Checksum.{IsValidChecksum}
use Rattle.s39_words.specs.Reading.{IsWordCount, flag_of}
use Rattle.s39_words.specs.Spelling.{words_of, HaveIndices}

-- the most wrong words that are always detected
abbrev pub most_wrong_words : ℕ
most_wrong_words = 3

-- the number of places at which two lists of one length differ
abbrev pub count_of_differences : List ℕ → List ℕ → ℕ
count_of_differences [] ws = 0
count_of_differences (v ∷ vs) [] = 0
count_of_differences (v ∷ vs) (w ∷ ws) = if v == w then count_of_differences vs ws else suc (count_of_differences vs ws)

-- these are the indices of a mnemonic's words: as many as it may have, with a valid checksum
pub record IsMnemonic (indices : List ℕ) : Type 0 where
  pub count : IsWordCount (length indices)
  pub in_list : All IsIndex indices
  pub checksum : IsValidChecksum (flag_of indices) indices

-- The text has as many words as the mnemonic, all in the word list, and one, two or three of them are wrong. The
-- extendable flag, which selects the customization string, is the same.
pub record IsMistyped (text mnemonic : List ℕ) : Type 0 where
  pub words : List ℕ
  pub known : HaveIndices (words_of text) words
  pub same_count : length words ≡ length mnemonic
  pub same_flag : flag_of words ≡ flag_of mnemonic
  pub wrong : 1 ≤ count_of_differences words mnemonic
  pub few : count_of_differences words mnemonic ≤ most_wrong_words
