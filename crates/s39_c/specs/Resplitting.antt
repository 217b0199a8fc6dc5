-- What `shamir_resplit` and `shamir_create_from_encrypted` give.
use Rattle.std.specs.Prelude.{ℕ, List, length, Result}
use Rattle.s39_backup.specs.declared.plan.Members.{Members}
use Rattle.s39_backup.specs.Plan.{IsPlanReading}
use Rattle.s39_input.specs.Input.{lines_in}
use Rattle.s39_input.specs.declared.fault.Fault.{Fault}
use Rattle.s39_creating.specs.Resplit.{IsOutputFromEncrypted}
use Rattle.s39_c.specs.declared.answer.ShamirAnswer.{ShamirAnswer}
use Rattle.s39_c.specs.declared.encrypted.ShamirParameters.{ShamirParameters}
use Rattle.s39_c.specs.Answers.{Step, GivesOutputAs, created, out_of_range, plan_refused}
use Rattle.s39_c.specs.Encrypted.{AreParameters}

-- The first that applies: a text that is no plan; and then what a command writes that has these outputs of the plan, with the
-- number of mnemonics in the answer, or the refusal that it answers.
abbrev pub GivesSplit : (ℕ → List Members → List ℕ → Result (Unit {0}) Fault → Type 0) → List ℕ → List ℕ → List ℕ → ShamirAnswer → Type 0
GivesSplit IsOutput plan old =
    Step (IsPlanReading plan) plan_refused (λ read. GivesOutputAs (λ text. created (length text) (lines_in text)) (IsOutput read.0 read.1) old) old

-- The first that applies: a number of the parameters out of its range; and then what is given of the encrypted secret by the
-- plan.
abbrev pub GivesFromEncrypted : ShamirParameters → List ℕ → List ℕ → List ℕ → List ℕ → List ℕ → ShamirAnswer → Type 0
GivesFromEncrypted parameters encrypted random plan old =
    Step (AreParameters parameters) (λ _. out_of_range) (λ params.
    GivesSplit (λ threshold groups. IsOutputFromEncrypted threshold groups random (params, encrypted)) plan old) old
