-- The word that a text begins with. Of the public contracts, only that of `after_separators` cites `BeginsInWord`.
use Rattle.std.specs.Prelude.{◌≡◌, ℕ, List, ◌++◌, All, take, true, false}
use Rattle.s39_words.specs.Spelling.{is_separator}

-- the text doesn't begin with a separator
abbrev pub BeginsInWord : List ℕ → Type 0
BeginsInWord text = All (λ b. is_separator b ≡ false) (take 1 text)

-- the text is the word and the rest: the word ends before the first separator, or at the end of the text
pub record BeginsWith (text word rest : List ℕ) : Type 0 where
  pub parts : text ≡ word ++ rest
  pub inside : All (λ b. is_separator b ≡ false) word
  pub behind : All (λ b. is_separator b ≡ true) (take 1 rest)
