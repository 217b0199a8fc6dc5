-- What `shamir_text` gives.
use Rattle.std.specs.Prelude.{ℕ, ◌≤◌, List, length}
use Rattle.s39_c.specs.declared.answer.ShamirAnswer.{ShamirAnswer}
use Rattle.s39_c.specs.Answers.{Gives}

-- the most bytes of a text
abbrev pub longest_text : ℕ
longest_text = 64

-- A text in a slice, or that it doesn't fit. Which text it is, no contract of a derived `Display` says.
abbrev pub GivesText : List ℕ → List ℕ → ShamirAnswer → Type 0
GivesText old new answer = (text : List ℕ) × (length text ≤ longest_text) × Gives text old new answer
