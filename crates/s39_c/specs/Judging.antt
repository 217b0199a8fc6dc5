-- What `shamir_judge` gives.
use Rattle.std.specs.Prelude.{◌≡◌, ℕ, List}
use Rattle.s39_words.specs.Share.{flag_bit}
use Rattle.s39_input.specs.declared.judging.Judged.{Judged}
use Rattle.s39_input.specs.Judging.{judgement}
use Rattle.s39_reading.specs.Status.{IsStatusOf}
use Rattle.s39_c.specs.declared.answer.ShamirAnswer.{ShamirAnswer}
use Rattle.s39_c.specs.declared.judging.ShamirJudgement.{ShamirJudgement}
use Rattle.s39_c.specs.Answers.{Step, filled, refused}
use Rattle.s39_c.specs.Parsing.{header_of}
use Rattle.s39_c.specs.Status.{GivesStatus}

-- the fields of the share but its value, and whether it came before
abbrev pub judgement_of : Judged → ShamirJudgement
judgement_of judged = record { share = header_of judged.share; again = flag_bit judged.again }

-- What a line is beside lines, and the status of its set in a slice, or that this doesn't fit; or the first cause for which the line
-- isn't judged, and nothing changes.
abbrev pub GivesJudgement : List ℕ → List ℕ → ShamirJudgement → ShamirJudgement → List ℕ → List ℕ → ShamirAnswer → Type 0
GivesJudgement lines line before after old =
    Step (λ found. (judgement lines line ≡ found) × (after ≡ filled judgement_of before found)) refused
    (λ judged. GivesStatus (IsStatusOf judged.set) old) old
