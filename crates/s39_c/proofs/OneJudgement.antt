-- What a mnemonic is beside others is given in one way, and there is such a way.
use Rattle.std.proofs.Common.{◌≡◌, ℕ, List, [], length, refl, sym, ap, ap₂, ◌∙◌}
use Rattle.std.proofs.Common.{Option, Some, None, Result, Ok, Err}
use Rattle.s39_words.specs.declared.ShareFields.{ShareFields}
use Rattle.s39_set.specs.Status.{status_of}
use Rattle.s39_set.specs.declared.set_lack.SetLack.TheVariants.{NoShares}
use Rattle.s39_set.specs.declared.status.Status.{Status}
use Rattle.s39_input.proofs.Sets.Checked.{same_writing}
use Rattle.s39_input.proofs.Steps.{AtMostOne, AtLeastOne}
use Rattle.s39_input.specs.Fault.{fault_of}
use Rattle.s39_input.specs.Judging.{judgement}
use Rattle.s39_input.specs.declared.fault.Fault.{Fault}
use Rattle.s39_input.specs.declared.fault.Refusal.TheVariants.{Lack}
use Rattle.s39_reading.specs.Status.{IsStatusOf, status_text, status_written}
use Rattle.s39_c.specs.declared.answer.ShamirAnswer.{ShamirAnswer}
use Rattle.s39_c.specs.declared.judging.ShamirJudgement.{ShamirJudgement}
use Rattle.s39_c.specs.Answers.{counted, refused}
use Rattle.s39_c.specs.Judging.{judgement_of, GivesJudgement}
use Rattle.s39_c.specs.Status.{WritesStatus, GivesStatus}
use Rattle.s39_c.proofs.InSteps.{Once, Given, gives_as_once, gives_as_some, step_once, step_some, filled_once, filled_some}

-- ---- the status of a set

same_done : {A E : Type 0} (a b : A) → ◌≡◌ {A = Result A E} (Ok a) (Ok b) → a ≡ b
same_done a b same = cc

same_fault : {A E : Type 0} (a b : E) → ◌≡◌ {A = Result A E} (Err a) (Err b) → a ≡ b
same_fault a b same = cc

not_both : {A E : Type 0} (a : A) (b : E) → ◌≡◌ {A = Result A E} (Ok a) (Err b) → ⊥
not_both a b same = absurd (cc)

module _ (set : List ShareFields) where
  written_once : AtMostOne (WritesStatus (IsStatusOf set))
  written_once (Ok written) (Ok other) p q =
      let (text, status) = same_writing written.0 other.0 (Ok written.1) (Ok other.1) (p ∙ sym q) in
      ap₂ (λ (bytes : List ℕ) (told : Status). Ok (bytes, told)) text (same_done {E = Fault} written.1 other.1 status)
  written_once (Ok written) (Err fault) p q =
      absurd (not_both written.1 fault (same_writing written.0 [] (Ok written.1) (Err fault) (p ∙ sym q)).1)
  written_once (Err fault) (Ok written) p q =
      absurd (not_both written.1 fault (same_writing written.0 [] (Ok written.1) (Err fault) (q ∙ sym p)).1)
  written_once (Err fault) (Err other) p q =
      ap Err (same_fault {A = Status} fault other (same_writing [] [] (Err fault) (Err other) (p ∙ sym q)).1)

  written_for : (status : Option Status) → status_of set ≡ status → AtLeastOne (WritesStatus (IsStatusOf set))
  written_for None is = (Err (fault_of (Lack NoShares)), sym (ap (status_written set) is))
  written_for (Some status) is = (Ok (status_text set status, status), sym (ap (status_written set) is))

  status_once : (old : List ℕ) → Once (GivesStatus (IsStatusOf set) old)
  status_once old =
      step_once (WritesStatus (IsStatusOf set)) refused _ old written_once
      (λ written _. gives_as_once (counted (length written.0) written.1) written.0 old)

  status_some : (old : List ℕ) → Given (GivesStatus (IsStatusOf set) old)
  status_some old =
      step_some (WritesStatus (IsStatusOf set)) refused _ old (written_for (status_of set) refl)
      (λ written _. gives_as_some (counted (length written.0) written.1) written.0 old)

-- ---- a judgement

module _ (lines line : List ℕ) (before : ShamirJudgement) (old : List ℕ) where
  pub judgement_once : (after also : ShamirJudgement) (new other : List ℕ) (answer another : ShamirAnswer)
      → GivesJudgement lines line before after old new answer → GivesJudgement lines line before also old other another
      → (after ≡ also) × (new ≡ other) × (answer ≡ another)
  judgement_once =
      filled_once (λ found. judgement lines line ≡ found) refused _ old judgement_of before (λ x y p q. sym p ∙ q)
      (λ judged _. status_once judged.set old)

  pub judgement_some : (after : ShamirJudgement) × (new : List ℕ) × (answer : ShamirAnswer) × GivesJudgement lines line before after old new answer
  judgement_some =
      filled_some (λ found. judgement lines line ≡ found) refused _ old judgement_of before (judgement lines line, refl)
      (λ judged _. status_some judged.set old)
