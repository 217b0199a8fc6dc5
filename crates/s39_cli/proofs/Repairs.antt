-- The exit status of a repair.
use Rattle.std.proofs.Common.{◌≡◌, ◌≢◌, ◌⊎◌, ◌∙◌, ℕ, Bool, true, false, Contains, List, Result, Ok, Err, arith, inl, inr, sym, true≢false}
use Rattle.s39_input.specs.Input.{Input, lines_of}
use Rattle.s39_input.specs.Repair.{IsRepairOutput, TwoFit}
use Rattle.s39_input.specs.declared.fault.Fault.{Fault}
use Rattle.s39_cli.specs.Headline.{RepairsTellOfTwo, TwoFitSome}
use Rattle.s39_cli.specs.Outcome.{status_of}
use Rattle.s39_cli.proofs.CreatedBackups.{refusal_not_done}

module _ (told : (input : Input) (text line : List ℕ) (one_each : Bool) → IsRepairOutput input text (Ok one_each) → Contains (lines_of input) line
    → TwoFit line → one_each ≡ false)
    (only : (input : Input) (text : List ℕ) → IsRepairOutput input text (Ok false) → TwoFitSome input) where
  of_answer : (input : Input) (text : List ℕ) (answer : Result Bool Fault) (status : ℕ) → IsRepairOutput input text answer → status ≡ status_of answer
      → (TwoFitSome input → status ≢ 0) × (status ≡ 1 → TwoFitSome input ⊎ ((fault : Fault) × IsRepairOutput input text (Err fault)))
  of_answer input text (Ok true) status output is =
      (λ two done. true≢false (told input text two.0 true output two.1 two.2), λ one. absurd (omega (arith, one, is)))
  of_answer input text (Ok false) status output is = (λ two done. omega (arith, done, is), λ one. inl (only input text output))
  of_answer input text (Err fault) status output is = (λ two done. refusal_not_done fault.refusal (sym done ∙ is), λ one. inr (fault, output))

  pub repairs_tell_of_two : RepairsTellOfTwo
  repairs_tell_of_two s p input text status outcome = of_answer input text outcome.0 status outcome.1 outcome.2
