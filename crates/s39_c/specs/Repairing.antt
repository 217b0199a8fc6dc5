-- What `shamir_repair` gives.
use Rattle.std.specs.Prelude.{ℕ, ◌*◌, ◌+◌, List, length}
use Rattle.s39_words.specs.Layout.{longest_text}
use Rattle.s39_repair.specs.declared.repaired.Repaired.{Repaired}
use Rattle.s39_repair.specs.Answer.{Repairs}
use Rattle.s39_input.specs.Create.{ArePrintedLines}
use Rattle.s39_input.specs.Repair.{shares_of}
use Rattle.s39_c.specs.declared.answer.ShamirAnswer.{ShamirAnswer}
use Rattle.s39_c.specs.Answers.{Step, GivesAs, created, repair_refused}

-- the most bytes of such a text: those of two mnemonics, each with its line feed
abbrev pub longest_repaired : ℕ
longest_repaired = 2 * (longest_text + 1)

-- The mnemonics of these shares in a slice, with their number in the answer; or that they don't fit.
abbrev pub GivesLines : Repaired → List ℕ → List ℕ → ShamirAnswer → Type 0
GivesLines repaired old new answer =
    (text : List ℕ) × ArePrintedLines (shares_of repaired) text × GivesAs (created (length text) (length (shares_of repaired))) text old new answer

-- The mnemonics that fit a line of marks, in order; or the first cause for which none is given, and then the slice is as it was.
abbrev pub GivesRepaired : List ℕ → List ℕ → List ℕ → ShamirAnswer → Type 0
GivesRepaired line old = Step (Repairs line) repair_refused (λ repaired. GivesLines repaired old) old
