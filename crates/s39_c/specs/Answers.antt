-- What calls answer, and what memory has after them.
use Rattle.std.specs.Prelude.{◌≡◌, ◌⊎◌, ℕ, ◌<◌, ◌≤◌, List, [], ◌++◌, length, drop, Option, Some, None, Result, Ok, Err}
use Rattle.s39_refusal.specs.declared.cause.Cause.{Cause}
use Rattle.s39_refusal.specs.Causes.{cause}
use Rattle.s39_kdf.specs.Causes.{fingerprint_cause, length_cause}
use Rattle.s39_words.specs.declared.word_error.WordError.{WordError}
use Rattle.s39_words.specs.Reading.{cause_of as word_cause_of}
use Rattle.s39_repair.specs.declared.repair_error.RepairError.{RepairError}
use Rattle.s39_repair.specs.Answer.{cause_of as repair_cause_of}
use Rattle.s39_set.specs.Causes.{cursor_cause, names_cause}
use Rattle.s39_set.specs.declared.status.Status.{Status}
use Rattle.s39_backup.specs.declared.plan_error.PlanError.{PlanError}
use Rattle.s39_backup.specs.Plan.{plan_cause_of}
use Rattle.s39_input.specs.declared.fault.Fault.{Fault}
use Rattle.s39_drilling.specs.declared.listing.Listing.{Listing}
use Rattle.s39_input.specs.declared.slices.NoOutput.{NoOutput}
use Rattle.s39_input.specs.declared.slices.NoOutput.TheVariants.{Refused, TooShort}
use Rattle.s39_input.specs.Fault.{cause_of}
use Rattle.s39_c.specs.declared.answer.ShamirAnswer.{ShamirAnswer}

-- nothing is refused, and n bytes are written
abbrev pub done : ℕ → ShamirAnswer
done n = record { code = 0; mismatches = 0; line = 0; first = 0; second = 0; written = n }

-- a refusal with what it says, and its line, which is 0 if it has none
abbrev pub refusal : Cause → ℕ → ShamirAnswer
refusal says line = record { code = says.code; mismatches = 0; line = line; first = says.first; second = says.second; written = 0 }

-- a slice is too short for this number of bytes
abbrev pub too_short : ℕ → ShamirAnswer
too_short needed = refusal (cause 1 needed 0) 0

-- a number is out of its range
abbrev pub out_of_range : ShamirAnswer
out_of_range = refusal (cause 2 0 0) 0

-- mnemonics have this exponent, which is above the maximum that is allowed
abbrev pub high_exponent : ℕ → ShamirAnswer
high_exponent exponent = refusal (cause 3 exponent 0) 0

-- nothing is refused, and the answer is this number
abbrev pub number : ℕ → ShamirAnswer
number n = record { code = 0; mismatches = 0; line = 0; first = n; second = 0; written = 0 }

abbrev pub line_of : Option ℕ → ℕ
line_of None = 0
line_of (Some line) = line

-- a text is no mnemonic
abbrev pub word_refused : WordError → ShamirAnswer
word_refused error = refusal (word_cause_of error) 0

-- no mnemonic is given for a line of marks
abbrev pub repair_refused : RepairError → ShamirAnswer
repair_refused error = refusal (repair_cause_of error) 0

-- a text is no plan
abbrev pub plan_refused : PlanError → ShamirAnswer
plan_refused error = refusal (plan_cause_of error) 0

-- a secret can't have this number of bytes
abbrev pub length_refused : ℕ → ShamirAnswer
length_refused n = refusal (length_cause n) 0

-- a text is no cursor
abbrev pub cursor_refused : ShamirAnswer
cursor_refused = refusal cursor_cause 0

-- a text is no fingerprint
abbrev pub fingerprint_refused : ShamirAnswer
fingerprint_refused = refusal fingerprint_cause 0

-- a text is no list of names
abbrev pub names_refused : ShamirAnswer
names_refused = refusal names_cause 0

-- nothing is refused; the numbers are those of the bytes written, of the complete groups, and of the groups that are needed
abbrev pub counted : ℕ → Status → ShamirAnswer
counted n status = record { code = 0; mismatches = 0; line = 0; first = status.complete; second = status.required; written = n }

-- nothing is refused; the numbers are those of the quorums listed, of the bytes before the last line, of the bytes written, and
-- of the quorums that are refused for a digest or give another secret than the expected one
abbrev pub listed : Listing → ShamirAnswer
listed listing = record { code = 0; mismatches = listing.mismatches; line = 0; first = listing.listed; second = listing.last; written = listing.written }

-- nothing is refused; the numbers are those of the bytes written, and of the mnemonics in them
abbrev pub created : ℕ → ℕ → ShamirAnswer
created n mnemonics = record { code = 0; mismatches = 0; line = 0; first = mnemonics; second = 0; written = n }

-- a run is refused
abbrev pub refused : Fault → ShamirAnswer
refused fault = refusal (cause_of fault.refusal) (line_of fault.line)

-- nothing is put into a slice
abbrev pub without_output : NoOutput → ShamirAnswer
without_output (Refused fault) = refused fault
without_output (TooShort short) = too_short short.needed

-- These bytes are at the front of a slice, the rest of it is unchanged, and this is the answer. Or they don't fit, and all of it is
-- unchanged.
abbrev pub GivesAs : ShamirAnswer → List ℕ → List ℕ → List ℕ → ShamirAnswer → Type 0
GivesAs success bytes old new answer =
    ((length bytes ≤ length old) × (new ≡ bytes ++ drop (length bytes) old) × (answer ≡ success))
    ⊎ ((length old < length bytes) × (new ≡ old) × (answer ≡ too_short (length bytes)))

-- the same, where the answer says how many bytes they are
abbrev pub Gives : List ℕ → List ℕ → List ℕ → ShamirAnswer → Type 0
Gives bytes old new answer = GivesAs (done (length bytes)) bytes old new answer

-- The first step is refused, the answer is this refusal, and the slice is as it was. Or the step gives something, and the next one goes
-- on with it.
abbrev pub Step : {A E : Type 0} → (Result A E → Type 0) → (E → ShamirAnswer) → (A → List ℕ → ShamirAnswer → Type 0) → List ℕ → List ℕ
    → ShamirAnswer → Type 0
Step {A} {E} First refusal Next old new answer =
    ((e : E) × First (Err e) × (new ≡ old) × (answer ≡ refusal e)) ⊎ ((a : A) × First (Ok a) × Next a new answer)

-- a command with these outputs writes this text, or it is refused and writes nothing
abbrev pub Writes : (List ℕ → Result (Unit {0}) Fault → Type 0) → Result (List ℕ) Fault → Type 0
Writes IsOutput (Ok text) = IsOutput text (Ok tt)
Writes IsOutput (Err fault) = IsOutput [] (Err fault)

-- what a struct has after a step: this of what the step gives, or what it had if the step is refused
abbrev pub filled : {A E T : Type 0} → (A → T) → T → Result A E → T
filled this old (Ok a) = this a
filled this old (Err _) = old

-- what a command with these outputs writes, with this answer for each text
abbrev pub GivesOutputAs : (List ℕ → ShamirAnswer) → (List ℕ → Result (Unit {0}) Fault → Type 0) → List ℕ → List ℕ → ShamirAnswer → Type 0
GivesOutputAs success IsOutput old = Step (Writes IsOutput) refused (λ text. GivesAs (success text) text old) old

-- the same, where the answer says how many bytes the text has
abbrev pub GivesOutput : (List ℕ → Result (Unit {0}) Fault → Type 0) → List ℕ → List ℕ → ShamirAnswer → Type 0
GivesOutput IsOutput old new answer = GivesOutputAs (λ text. done (length text)) IsOutput old new answer
