-- What `shamir_status` gives.
use Rattle.std.specs.Prelude.{ℕ, List, [], length, Result, Ok, Err}
use Rattle.s39_set.specs.declared.status.Status.{Status}
use Rattle.s39_input.specs.declared.fault.Fault.{Fault}
use Rattle.s39_c.specs.declared.answer.ShamirAnswer.{ShamirAnswer}
use Rattle.s39_c.specs.Answers.{Step, GivesAs, counted, refused}

-- a command with these outputs writes this text, and its first line has these numbers; or it is refused and writes nothing
abbrev pub WritesStatus : (List ℕ → Result Status Fault → Type 0) → Result (List ℕ × Status) Fault → Type 0
WritesStatus IsOutput (Ok written) = IsOutput written.0 (Ok written.1)
WritesStatus IsOutput (Err fault) = IsOutput [] (Err fault)

-- the text that a command with these outputs writes, with the numbers of its first line in the answer
abbrev pub GivesStatus : (List ℕ → Result Status Fault → Type 0) → List ℕ → List ℕ → ShamirAnswer → Type 0
GivesStatus IsOutput old =
    Step (WritesStatus IsOutput) refused (λ written. GivesAs (counted (length written.0) written.1) written.0 old) old
