-- What `shamir_create` and `shamir_random_needed` give.
use Rattle.std.specs.Prelude.{◌≡◌, ◌⊎◌, ℕ, ◌<◌, ◌≤◌, ◌^◌, List, length, Result, Ok, Err}
use Rattle.s39_kdf.specs.Limits.{exponent_bits, IsSecretLength}
use Rattle.s39_words.specs.Share.{flag_bit}
use Rattle.s39_backup.specs.declared.options.Options.{Options}
use Rattle.s39_backup.specs.declared.plan.Members.{Members}
use Rattle.s39_backup.specs.declared.plan_error.PlanError.{PlanError}
use Rattle.s39_backup.specs.Plan.{IsPlanReading}
use Rattle.s39_backup.specs.Created.{random_needed, Asked, asked_for}
use Rattle.s39_input.specs.Input.{lines_in, whole}
use Rattle.s39_input.specs.Create.{IsCreateOutput}
use Rattle.s39_c.specs.declared.answer.ShamirAnswer.{ShamirAnswer}
use Rattle.s39_c.specs.Answers.{Step, GivesOutputAs, created, number, out_of_range, plan_refused, length_refused}

-- The mnemonics that the command `create` writes for these random bytes, with their number in the answer; or the refusal that
-- it answers, and then the slice is as it was.
abbrev pub GivesMnemonics : Asked → List ℕ → List ℕ → List ℕ → ShamirAnswer → Type 0
GivesMnemonics asked random = GivesOutputAs (λ text. created (length text) (lines_in text)) (IsCreateOutput asked (whole random))

-- what a call is given
pub record Wanted : Type 0 where
  pub plan : List ℕ
  pub secret : List ℕ
  pub passphrase : List ℕ
  pub exponent : ℕ
  pub extendable : ℕ

-- the options with these numbers, or that one of them is out of its range
abbrev pub AreOptions : ℕ → ℕ → Result Options (Unit {0}) → Type 0
AreOptions exponent extendable (Ok options) = (exponent ≡ options.exponent) × (extendable ≡ flag_bit options.extendable)
AreOptions exponent extendable (Err _) = ¬ ((exponent < 2 ^ exponent_bits) × (extendable ≤ 1))

-- The first that applies: an exponent above 15, or a flag above 1; a text that is no plan; and then what that plan gives.
abbrev pub GivesBackup : Wanted → List ℕ → List ℕ → List ℕ → ShamirAnswer → Type 0
GivesBackup wanted random old =
    Step (AreOptions wanted.exponent wanted.extendable) (λ _. out_of_range) (λ options.
    Step (IsPlanReading wanted.plan) plan_refused (λ plan.
    GivesMnemonics (asked_for wanted.secret wanted.passphrase plan.0 plan.1 options) random old) old) old

-- how many random bytes a plan's text takes for a secret of n bytes, or the refusal of the text, or of the length
abbrev pub GivesNumber : List ℕ → ℕ → ShamirAnswer → Type 0
GivesNumber plan n answer =
    ((error : PlanError) × IsPlanReading plan (Err error) × (answer ≡ plan_refused error))
    ⊎ ((threshold : ℕ) × (groups : List Members) × IsPlanReading plan (Ok (threshold, groups))
    × ((¬ IsSecretLength n × (answer ≡ length_refused n)) ⊎ (IsSecretLength n × (answer ≡ number (random_needed threshold groups n)))))
