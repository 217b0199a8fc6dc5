-- What `shamir_reissue` gives.
use Rattle.std.specs.Prelude.{ℕ, List, Result, Ok, Err}
use Rattle.s39_set.specs.Names.{Names}
use Rattle.s39_set.specs.Written.{IsWrittenForm}
use Rattle.s39_set.specs.declared.cursor.BadNames.{BadNames}
use Rattle.s39_backup.specs.declared.plan.Members.{Members}
use Rattle.s39_backup.specs.Plan.{IsPlanReading}
use Rattle.s39_input.specs.declared.fault.Fault.{Fault}
use Rattle.s39_c.specs.declared.answer.ShamirAnswer.{ShamirAnswer}
use Rattle.s39_c.specs.Answers.{Step, GivesOutput, plan_refused, names_refused}

-- the names that a text lists, or that it is no list of names
abbrev pub AreListed : List ℕ → Result Names BadNames → Type 0
AreListed listed (Ok names) = IsWrittenForm listed names
AreListed listed (Err _) = (names : Names) → ¬ IsWrittenForm listed names

-- The text is no list of names; or what a command gives that has these outputs of the names that it lists.
abbrev pub GivesNamed : (Names → List ℕ → Result (Unit {0}) Fault → Type 0) → List ℕ → List ℕ → List ℕ → ShamirAnswer → Type 0
GivesNamed IsOutput listed old = Step (AreListed listed) (λ _. names_refused) (λ names. GivesOutput (IsOutput names) old) old

-- The first that applies: a text that is no plan; one that is no list of names; and then what a command gives that has these
-- outputs of the plan and the names.
abbrev pub GivesReissued : (ℕ → List Members → Names → List ℕ → Result (Unit {0}) Fault → Type 0) → List ℕ → List ℕ → List ℕ → List ℕ → ShamirAnswer
    → Type 0
GivesReissued IsOutput plan listed old =
    Step (IsPlanReading plan) plan_refused (λ read. GivesNamed (IsOutput read.0 read.1) listed old) old
