-- How the program ends: what it read, what it wrote, and the exit status.
use Rattle.std.specs.Prelude.{◌≡◌, ◌≢◌, ◌⊎◌, ◌++◌, ℕ, Bool, true, false, List, Option, IfSome, Result, Err, string_bytes}
use Rattle.std.specs.Io.KnownBytes.{Appends, Consumes, Keeps, append_known}
use Rattle.clap.specs.Words.{Text, takes}
use Rattle.s39_backup.specs.declared.plan_error.PlanError.{PlanError}
use Rattle.s39_input.specs.declared.fault.DeviceFailure.TheVariants.{Write}
use Rattle.s39_input.specs.declared.fault.Refusal.TheVariants.{Device}
use Rattle.s39_input.specs.declared.fault.Fault.{Fault}
use Rattle.s39_input.specs.Fault.{fault_of}
use Rattle.s39_input.specs.Input.{Input, whole}
use Rattle.s39_command.specs.declared.command.Job.{Job}
use Rattle.s39_command.specs.declared.command.Job.TheVariants.{Create, Resplit}
use Rattle.s39_command.specs.declared.command.NoJob.{NoJob}
use Rattle.s39_command.specs.declared.command.NoJob.TheVariants as no_job
use Rattle.s39_cli.specs.declared.runner.Ended.{Ended}
use Rattle.s39_cli.specs.declared.runner.Ended.TheVariants.{With, NoMemory}
use Rattle.s39_cli.specs.declared.work.NoWork.{NoWork}
use Rattle.s39_cli.specs.declared.work.NoWork.TheVariants as no_work
use Rattle.s39_command.specs.Command.{AsksForText, GivesBadValues, GivesCall, shamir_app}
use Rattle.s39_command.specs.declared.command.BadValues.{BadValues}
use Rattle.s39_command.specs.declared.command.Call.{Call}
use Rattle.s39_cli.specs.Values.{AreDrawn, HasSomeBad, LacksValue, TakesValues, Told, terminal_name, text_of}
use Rattle.s39_cli.specs.Outcome.{GivesPlan, HasBadSecret, HasBadPlan, HasBadCursor, HasBadFingerprint, HasBadNames, IsJobOutput, IsReady, status_of}

-- the text is written for the input by an answer with this exit status
abbrev pub HasStatus : (Input → List ℕ → Result Bool Fault → Type 0) → Input → List ℕ → ℕ → Type 0
HasStatus IsOutput input text status = (answer : Result Bool Fault) × IsOutput input text answer × (status ≡ status_of answer)

-- what the job with this text of its secret and this passphrase writes for the input, and the exit status
abbrev pub IsOutcome : Job → Text → Text → Input → List ℕ → ℕ → Type 0
IsOutcome job secret passphrase = HasStatus (IsJobOutput job secret passphrase)

-- The job's random bytes would be typed: it creates a backup, and the input is a terminal, or it splits anew, and the file of its random
-- bytes is the terminal.
abbrev pub IsTyped : Bool → Job → Type 0
IsTyped at_terminal (Create plan exponent extendable) = at_terminal ≡ true
IsTyped at_terminal (Resplit plan file) = file.now ≡ terminal_name
IsTyped at_terminal _ = ⊥

-- the job takes random bytes from a file: it splits anew, and its plan is one
abbrev pub AwaitsRandom : Job → Type 0
AwaitsRandom (Resplit plan file) = GivesPlan plan.now
AwaitsRandom _ = ⊥

-- the job is done with this: with the random bytes of its file if it splits anew, and else with the text of its secret
abbrev pub IsDoneWith : Told → Job → Text → Text → Type 0
IsDoneWith told (Resplit plan file) secret given = AreDrawn (told file.now) given
IsDoneWith told _ secret given = given ≡ secret

-- these are all bytes of a reader, if it tells them
abbrev pub AreAllOf : Option (List ℕ) → List ℕ → Type 0
AreAllOf told bytes = IfSome told (λ all. bytes ≡ all)

-- the input is what came from a reader that has these bytes left: all that it had, or those before a read failed
abbrev pub IsFrom : Option (List ℕ) → Option (List ℕ) → Input → Type 0
IsFrom told left input = ((input.ended ≡ true) × AreAllOf told input.bytes) ⊎ ((input.ended ≡ false) × Consumes told left input.bytes)

-- the writer holds a beginning of what it held with this text after it
abbrev pub HoldsBeginning : Option (List ℕ) → Option (List ℕ) → List ℕ → Type 0
HoldsBeginning old new text = (lost : List ℕ) × Keeps (append_known old text) (append_known new lost)

-- nothing is written, and the exit status is 2 if what was read is no value, and 3 for a file or a read that failed
abbrev pub EndsUnwritten : {W : Type 0} → Type 0 → W → ℕ → W → Type 0
EndsUnwritten is_bad writer status written_to = (((status ≡ 2) × is_bad) ⊎ (status ≡ 3)) × (written_to ≡ writer)

module _ {R W : Type 0} where
  -- this holds for the exit status and the devices at the end, unless memory ran out
  abbrev pub OnEnd : Ended R W → (ℕ → R → W → Type 0) → Type 0
  OnEnd (With status read_to written_to) Is = Is status read_to written_to
  OnEnd NoMemory Is = Unit {0}

  -- the exit status
  abbrev pub status_in : Ended R W → ℕ
  status_in (With status read_to written_to) = status
  status_in NoMemory = 4

  -- the exit status is this, and nothing is read or written
  abbrev pub EndsAtOnce : ℕ → R → W → ℕ → R → W → Type 0
  EndsAtOnce wanted reader writer status read_to written_to = (status ≡ wanted) × (read_to ≡ reader) × (written_to ≡ writer)

module _ {R W : Type 0} (contents : W → Option (List ℕ)) where
  -- nothing is read; the text goes out, and the exit status is 0; or a beginning of it does, and the exit status is 3
  abbrev pub ShowsText : List ℕ → R → W → ℕ → R → W → Type 0
  ShowsText text reader writer status read_to written_to =
      (read_to ≡ reader)
      × (((status ≡ 0) × Appends (contents writer) (contents written_to) text)
      ⊎ ((status ≡ 3) × HoldsBeginning (contents writer) (contents written_to) text))

module _ {R W : Type 0} (remaining : R → Option (List ℕ)) (contents : W → Option (List ℕ)) where
  -- The text for the reader's bytes goes out, and of the reader some of its first bytes are read. With any exit status except 3, all
  -- of the text goes out, for all bytes. Status 3 stands for a failed device: a beginning goes out of the text for the bytes that
  -- came. If the reader doesn't tell its bytes, this holds for some bytes.
  pub record Delivers (IsOutput : Input → List ℕ → ℕ → Type 0) (reader : R) (writer : W) (status : ℕ) (read_to : R) (written_to : W) : Type 0 where
    pub read : (came : List ℕ) × Consumes (remaining reader) (remaining read_to) came
    pub done : status ≢ 3 → (bytes : List ℕ) × AreAllOf (remaining reader) bytes
        × ((text : List ℕ) × IsOutput (whole bytes) text status × Appends (contents writer) (contents written_to) text)
    pub failed : status ≡ 3 → (input : Input) × IsFrom (remaining reader) (remaining read_to) input
        × ((text : List ℕ) × ((full : ℕ) × IsOutput input text full) × HoldsBeginning (contents writer) (contents written_to) text)

  -- The job is done, with this text of its secret and this passphrase. In this order: a secret that isn't hexadecimal is 2, and a plan,
  -- a cursor, a fingerprint or a list of names that is none is 1, with nothing read or written; else the job's output goes out.
  abbrev pub DoesJob : Job → Text → Text → R → W → ℕ → R → W → Type 0
  DoesJob job secret passphrase reader writer status read_to written_to =
      (HasBadSecret job secret × EndsAtOnce 2 reader writer status read_to written_to)
      ⊎ (((error : PlanError) × HasBadPlan job secret error) × EndsAtOnce 1 reader writer status read_to written_to)
      ⊎ (HasBadCursor job × EndsAtOnce 1 reader writer status read_to written_to)
      ⊎ (HasBadFingerprint job × EndsAtOnce 1 reader writer status read_to written_to)
      ⊎ (HasBadNames job × EndsAtOnce 1 reader writer status read_to written_to)
      ⊎ (IsReady job secret × Delivers (IsOutcome job secret passphrase) reader writer status read_to written_to)

module _ {R W : Type 0} (told : Told) (remaining : R → Option (List ℕ)) (contents : W → Option (List ℕ)) where
  -- The job is done, with this text of its secret and this passphrase, or with the random bytes of its file. If this file isn't read,
  -- the status is 3, and nothing is read or written.
  abbrev pub DoesDrawn : Job → Text → Text → R → W → ℕ → R → W → Type 0
  DoesDrawn job secret passphrase reader writer status read_to written_to =
      (AwaitsRandom job × EndsAtOnce 3 reader writer status read_to written_to)
      ⊎ ((given : Text) × IsDoneWith told job secret given × DoesJob remaining contents job given passphrase reader writer status read_to written_to)

  -- The job's output goes out; or the file of its random bytes isn't read, and then nothing is read or written.
  abbrev pub DeliversDrawn : Job → Text → Text → R → W → ℕ → R → W → Type 0
  DeliversDrawn job secret passphrase reader writer status read_to written_to =
      (AwaitsRandom job × EndsAtOnce 3 reader writer status read_to written_to)
      ⊎ ((given : Text) × IsDoneWith told job secret given
      × Delivers remaining contents (IsOutcome job given passphrase) reader writer status read_to written_to)

  -- The call is done. In this order: a job whose random bytes would be typed ends with 2, and nothing is read or written; if a
  -- value isn't read, the status is 2 because one is too long or a mnemonic, or 3, and nothing is written; else the job with the values is done.
  abbrev pub TakesCall : Bool → Call → R → W → ℕ → R → W → Type 0
  TakesCall at_terminal call reader writer status read_to written_to =
      (IsTyped at_terminal call.job × EndsAtOnce 2 reader writer status read_to written_to)
      ⊎ ((IsTyped at_terminal call.job → ⊥) × (LacksValue call.files reader read_to
      × EndsUnwritten (HasSomeBad told remaining call.files reader) writer status written_to))
      ⊎ ((IsTyped at_terminal call.job → ⊥) × ((secret passphrase : Option (List ℕ)) × (behind : R)
      × TakesValues told remaining call.files secret passphrase reader behind × DoesDrawn call.job
      (text_of secret call.given.secret) (text_of passphrase call.given.passphrase) behind writer status read_to written_to))

  -- How the program ends with these words, by whether its input is a terminal: with help or the version if they ask for it; with 2 if they
  -- are no command, or a value of it is missing or given twice; and otherwise as the call that they give does.
  pub record EndsAs (at_terminal : Bool) (words : List Text) (reader : R) (writer : W) (status : ℕ) (read_to : R) (written_to : W) : Type 0 where
    pub asked : AsksForText words → (text : List ℕ) × ShowsText contents text reader writer status read_to written_to
    pub refused : takes shamir_app words ≡ false → (AsksForText words → ⊥) → EndsAtOnce 2 reader writer status read_to written_to
    pub taken : takes shamir_app words ≡ true
        → (((bad : BadValues) × GivesBadValues words bad) × EndsAtOnce 2 reader writer status read_to written_to)
        ⊎ ((call : Call) × GivesCall words call × TakesCall at_terminal call reader writer status read_to written_to)

  -- this holds unless memory ran out
  abbrev pub Ends : Bool → List Text → R → W → Ended R W → Type 0
  Ends at_terminal words reader writer ended = OnEnd ended (EndsAs at_terminal words reader writer)

-- ---- within the program; no public contract cites this

-- the writer has what it held at the end of a run with this answer; the answer is the same, or that the writer failed
abbrev pub IsFlushed : Option (List ℕ) → Option (List ℕ) → Result Bool Fault → Result Bool Fault → Type 0
IsFlushed held last answer given = Keeps held last × ((given ≡ answer) ⊎ (given ≡ Err (fault_of (Device Write))))

-- the text is written, or a beginning of it
abbrev pub GoesOut : Option (List ℕ) → Option (List ℕ) → List ℕ → Bool → Type 0
GoesOut old new text true = Appends old new text
GoesOut old new text false = HoldsBeginning old new text

-- the text is written except for a rest
pub record IsGoingOut (old now : Option (List ℕ)) (text rest : List ℕ) : Type 0 where
  pub written : List ℕ
  pub appends : Appends old now written
  pub parts : text ≡ written ++ rest

module _ {R W : Type 0} (contents : W → Option (List ℕ)) where
  -- how words end that give no job
  abbrev pub EndsWithoutJob : NoJob → R → W → Ended R W → Type 0
  EndsWithoutJob (no_job.Help text) reader writer ended = OnEnd ended (ShowsText contents (string_bytes text) reader writer)
  EndsWithoutJob (no_job.Refused text) reader writer ended = OnEnd ended (EndsAtOnce 2 reader writer)
  EndsWithoutJob (no_job.Values bad) reader writer ended = OnEnd ended (EndsAtOnce 2 reader writer)
  EndsWithoutJob no_job.Memory reader writer ended = ended ≡ NoMemory

module _ {R W : Type 0} where
  -- how a call ends if one of its values isn't read, because what was read is none, or for another cause
  abbrev pub EndsUnread : Type 0 → R → W → Ended R W → Type 0
  EndsUnread is_bad reader writer ended =
      OnEnd ended (λ status read_to written_to. (read_to ≡ reader) × EndsUnwritten is_bad writer status written_to)

  -- how a job ends that isn't begun
  abbrev pub EndsUnbegun : NoWork → R → W → Ended R W → Type 0
  EndsUnbegun no_work.Secret reader writer ended = OnEnd ended (EndsAtOnce 2 reader writer)
  EndsUnbegun (no_work.Plan error) reader writer ended = OnEnd ended (EndsAtOnce 1 reader writer)
  EndsUnbegun (no_work.Cursor error) reader writer ended = OnEnd ended (EndsAtOnce 1 reader writer)
  EndsUnbegun (no_work.Fingerprint error) reader writer ended = OnEnd ended (EndsAtOnce 1 reader writer)
  EndsUnbegun (no_work.Names error) reader writer ended = OnEnd ended (EndsAtOnce 1 reader writer)
  EndsUnbegun no_work.Memory reader writer ended = ended ≡ NoMemory
