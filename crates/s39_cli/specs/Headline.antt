-- What jobs write: once for each input, alike for the same values, and for backups that were created.
use Rattle.std.specs.Prelude.{◌≡◌, ◌≢◌, ◌⊎◌, ℕ, Bool, List, Contains, Option, None, Result, Ok, Err}
use Rattle.std.specs.Borrow.{Bor}
use Rattle.hex.specs.Hex.{decode_of}
use Rattle.clap.specs.Words.{Text}
use Rattle.s39_kdf.specs.Bytes.{AreBytes}
use Rattle.s39_kdf.specs.declared.noted.NotedFingerprint.{NotedFingerprint}
use Rattle.s39_kdf.specs.declared.secret_form.SecretForm.{SecretForm}
use Rattle.s39_set.specs.Names.{Names}
use Rattle.s39_set.specs.Written.{IsWrittenForm}
use Rattle.s39_backup.specs.declared.plan.Members.{Members}
use Rattle.s39_backup.specs.Plan.{IsPlanReading}
use Rattle.s39_input.specs.Input.{Input, lines_of, whole}
use Rattle.s39_input.specs.Repair.{IsRepairOutput, TwoFit}
use Rattle.s39_input.specs.declared.fault.Fault.{Fault}
use Rattle.s39_creating.specs.Reissue.{ReissuesCreated}
use Rattle.s39_creating.specs.Resplit.{ResplitsCreated}
use Rattle.s39_drilling.specs.declared.drill.Done.{Done}
use Rattle.s39_drilling.specs.Drill.{DrillsCreated}
use Rattle.s39_reading.specs.Recover.{RecoversCreated, secret_line}
use Rattle.s39_command.specs.declared.command.Job.{Job}
use Rattle.s39_command.specs.declared.command.Job.TheVariants.{Create, Recover, Drill, Reissue, Repair, Resplit}
use Rattle.s39_command.specs.Command.{HaveSameValues, IsInRange, text_in}
use Rattle.s39_cli.specs.Ending.{IsOutcome}
use Rattle.s39_cli.specs.Outcome.{IsCursor, IsNoted, IsReady, judged, status_of, told_in, where_done, without_mismatches}

-- a job writes one text for an input, with one exit status
abbrev pub OneOutcome : Type 0
OneOutcome = (job : Job) (secret passphrase : Text) (input : Input) (text other : List ℕ) (status another : ℕ)
    → IsOutcome job secret passphrase input text status → IsOutcome job secret passphrase input other another → (text ≡ other) × (status ≡ another)

-- jobs with the same values write the same, with the same exit status
abbrev pub SameValuesWriteTheSame : Type 0
SameValuesWriteTheSame = (job other : Job) → HaveSameValues job other → (secret passphrase : Text) (input : Input) (text : List ℕ) (status : ℕ)
    → IsOutcome job secret passphrase input text status → IsOutcome other secret passphrase input text status

-- two mnemonics fit some line of the input
abbrev pub TwoFitSome : Input → Type 0
TwoFitSome input = (line : List ℕ) × Contains (lines_of input) line × TwoFit line

-- If two mnemonics fit some line, the exit status of a repair isn't 0. If it is 1, two fit some line, or the repair is refused.
abbrev pub RepairsTellOfTwo : Type 0
RepairsTellOfTwo = (secret passphrase : Text) (input : Input) (text : List ℕ) (status : ℕ) → IsOutcome Repair secret passphrase input text status
    → (TwoFitSome input → status ≢ 0)
    × (status ≡ 1 → TwoFitSome input ⊎ ((fault : Fault) × IsRepairOutput input text (Err fault)))

-- what a split anew has for random bytes is bytes
abbrev pub DrawsBytes : Job → Text → Type 0
DrawsBytes (Resplit plan file) random = AreBytes random
DrawsBytes _ secret = Unit {0}

-- a job that can be begun, with its numbers in their ranges, writes some text for each input of bytes, with some exit status
abbrev pub SomeOutcome : Type 0
SomeOutcome = (job : Job) (secret passphrase : Text) (input : Input) → IsReady job secret → IsInRange job → DrawsBytes job secret → AreBytes input.bytes
    → (text : List ℕ) × (status : ℕ) × IsOutcome job secret passphrase input text status

-- ---- created backups

-- What a drill writes for mnemonics of a created backup is what `DrillsCreated` says, after the cursor's names, and with the form or the
-- fingerprint of the job. The exit status tells whether it found no mismatch.
abbrev pub DrillJobsList : Type 0
DrillJobsList = (after expected : Option (Bor Text)) (limit : ℕ) (form : SecretForm) (secret passphrase : Text) (input : Input) (text : List ℕ) (status : ℕ)
    → IsOutcome (Drill after limit form expected) secret passphrase input text status
    → (names : Option Names) × IsCursor after names × ((noted : Option NotedFingerprint) × IsNoted (text_in expected) noted
    × ((found : Result Done Fault) × DrillsCreated (told_in form noted) passphrase names limit input text found
    × (status ≡ status_of (judged without_mismatches found))))

-- What a recovery writes for them is what `RecoversCreated` says. The exit status tells whether the secret is written.
abbrev pub RecoverJobsRecover : Type 0
RecoverJobsRecover = (form : SecretForm) (expected : Option (Bor Text)) (secret passphrase : Text) (input : Input) (text : List ℕ) (status : ℕ)
    → IsOutcome (Recover form expected) secret passphrase input text status
    → (noted : Option NotedFingerprint) × IsNoted (text_in expected) noted
    × ((plain : Result (Unit {0}) Fault) × RecoversCreated form noted passphrase input text plain
    × (status ≡ status_of (judged where_done plain)))

-- What a reissue writes for them is what `ReissuesCreated` says, by the job's plan and names. The exit status tells whether the
-- mnemonics are written.
abbrev pub ReissueJobsReissue : Type 0
ReissueJobsReissue = (plan names : Bor Text) (secret passphrase : Text) (input : Input) (text : List ℕ) (status : ℕ)
    → IsOutcome (Reissue plan names) secret passphrase input text status
    → (group_threshold : ℕ) × (groups : List Members) × IsPlanReading plan.now (Ok (group_threshold, groups))
    × ((listed : Names) × IsWrittenForm names.now listed
    × ((plain : Result (Unit {0}) Fault) × ReissuesCreated group_threshold groups listed input text plain
    × (status ≡ status_of (judged where_done plain))))

-- What a split anew writes for them is what `ResplitsCreated` says, by the job's plan and these random bytes. The exit status tells
-- whether the mnemonics are written.
abbrev pub ResplitJobsResplit : Type 0
ResplitJobsResplit = (plan file : Bor Text) (random passphrase : Text) (input : Input) (text : List ℕ) (status : ℕ)
    → IsOutcome (Resplit plan file) random passphrase input text status
    → (group_threshold : ℕ) × (groups : List Members) × IsPlanReading plan.now (Ok (group_threshold, groups))
    × ((plain : Result (Unit {0}) Fault) × ResplitsCreated group_threshold groups random input text plain
    × (status ≡ status_of (judged where_done plain)))

-- the line, in this form, of the secret that these digits write is written, and the exit status is 0
abbrev pub GivesSecret : SecretForm → Text → List ℕ → ℕ → Type 0
GivesSecret form digits text status = (secret : List ℕ) × (decode_of digits ≡ Ok secret) × (text ≡ secret_line form secret) × (status ≡ 0)

-- If a creation writes a text with exit status 0, then a recovery with the same passphrase writes the secret for the input that is
-- this text.
abbrev pub CreatedJobsRecover : Type 0
CreatedJobsRecover = (plan : Bor Text) (exponent : ℕ) (extendable : Bool) (form : SecretForm) (secret passphrase other : Text) (random : Input)
    (text output : List ℕ) (status : ℕ)
    → IsOutcome (Create plan exponent extendable) secret passphrase random text 0 → IsOutcome (Recover form None) other passphrase (whole text) output status
    → GivesSecret form secret output status
