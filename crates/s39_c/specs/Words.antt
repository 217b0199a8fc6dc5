-- What `shamir_words` gives.
use Rattle.std.specs.Prelude.{ℕ, List, filter}
use Rattle.std.specs.List.{flat_map}
use Rattle.s39_words.specs.Prefix.{begins_with}
use Rattle.s39_words.specs.WordList.{word_list}
use Rattle.s39_input.specs.Input.{ended_line}
use Rattle.s39_c.specs.declared.answer.ShamirAnswer.{ShamirAnswer}
use Rattle.s39_c.specs.Answers.{Gives}

-- the most bytes of such a text: those of all words, with a line feed after each
abbrev pub longest_words : ℕ
longest_words = 7231

-- the words of the list that begin with these letters, in order, with a line feed after each
abbrev pub words_text : List ℕ → List ℕ
words_text letters = flat_map ended_line (filter (begins_with letters) word_list)

-- these words in a slice, or that they don't fit
abbrev pub GivesWords : List ℕ → List ℕ → List ℕ → ShamirAnswer → Type 0
GivesWords letters old new answer = Gives (words_text letters) old new answer
