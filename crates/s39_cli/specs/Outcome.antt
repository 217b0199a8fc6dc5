-- What a job gives of an input: its output, and the exit status.
use Rattle.std.specs.Prelude.{◌≡◌, ◌==◌, ℕ, Bool, List, Option, Some, None, Result, Ok, Err, if◌then◌else◌, true, IfSome, IsSomeAnd}
use Rattle.std.specs.Borrow.{Bor}
use Rattle.hex.specs.Hex.{decode_of}
use Rattle.hex.specs.declared.error.FromHexError.{FromHexError}
use Rattle.clap.specs.Words.{Text}
use Rattle.s39_kdf.specs.Noted.{noted_in}
use Rattle.s39_kdf.specs.declared.noted.BadFingerprint.{BadFingerprint}
use Rattle.s39_kdf.specs.declared.noted.NotedFingerprint.{NotedFingerprint}
use Rattle.s39_kdf.specs.declared.secret_form.SecretForm.{SecretForm}
use Rattle.s39_kdf.specs.declared.secret_form.SecretForm.TheVariants.{Expected}
use Rattle.s39_set.specs.Names.{Names}
use Rattle.s39_set.specs.Written.{IsWrittenForm}
use Rattle.s39_set.specs.Status.{is_enough}
use Rattle.s39_set.specs.declared.status.Status.{Status as SetStatus}
use Rattle.s39_backup.specs.declared.plan.Members.{Members}
use Rattle.s39_backup.specs.declared.plan_error.PlanError.{PlanError}
use Rattle.s39_backup.specs.declared.options.Options.{Options}
use Rattle.s39_backup.specs.Plan.{IsPlanReading}
use Rattle.s39_input.specs.declared.fault.Refusal.{Refusal}
use Rattle.s39_input.specs.declared.fault.Refusal.TheVariants.{Device}
use Rattle.s39_input.specs.declared.fault.Fault.{Fault}
use Rattle.s39_drilling.specs.declared.drill.Done.{Done}
use Rattle.s39_input.specs.Input.{Input}
use Rattle.s39_input.specs.Show.{IsShowOutput}
use Rattle.s39_input.specs.Repair.{IsRepairOutput}
use Rattle.s39_input.specs.Create.{IsCreateOutput}
use Rattle.s39_reading.specs.Recover.{IsRecoverOutput}
use Rattle.s39_drilling.specs.Drill.{IsDrillOutput}
use Rattle.s39_reading.specs.Status.{IsStatusOutput}
use Rattle.s39_creating.specs.Reissue.{IsReissueOutput}
use Rattle.s39_creating.specs.Resplit.{IsResplitOutput}
use Rattle.s39_command.specs.Command.{text_in}
use Rattle.s39_command.specs.declared.command.Job.{Job}
use Rattle.s39_command.specs.declared.command.Job.TheVariants.{Show, Create, Recover, Drill, Status, Reissue, Repair, Resplit}

-- ---- a job that isn't begun

-- the text is hexadecimal
abbrev pub IsHexadecimal : Text → Type 0
IsHexadecimal text = (bytes : List ℕ) × (decode_of text ≡ Ok bytes)

-- the text isn't hexadecimal: it has an odd number of digits, or a byte that is none
abbrev pub IsNotHexadecimal : Text → Type 0
IsNotHexadecimal text = (error : FromHexError) × (decode_of text ≡ Err error)

-- the text is the written form of names
abbrev pub WritesNames : Text → Type 0
WritesNames text = (names : Names) × IsWrittenForm text names

-- the text is the written form of no names
abbrev pub WritesNoNames : Text → Type 0
WritesNoNames text = (names : Names) → ¬ IsWrittenForm text names

-- the text gives a plan
abbrev pub GivesPlan : Text → Type 0
GivesPlan text = (group_threshold : ℕ) × (groups : List Members) × IsPlanReading text (Ok (group_threshold, groups))

-- the text writes a fingerprint
abbrev pub WritesFingerprint : Text → Type 0
WritesFingerprint text = (noted : NotedFingerprint) × (noted_in text ≡ Ok noted)

-- the text writes no fingerprint
abbrev pub WritesNoFingerprint : Text → Type 0
WritesNoFingerprint text = (bad : BadFingerprint) × (noted_in text ≡ Err bad)

-- the job has a secret, and this text of it isn't hexadecimal
abbrev pub HasBadSecret : Job → Text → Type 0
HasBadSecret (Create plan exponent extendable) secret = IsNotHexadecimal secret
HasBadSecret _ secret = ⊥

-- this text of the job's secret is hexadecimal, if it has one, and that of its plan gives none for this cause
abbrev pub HasBadPlan : Job → Text → PlanError → Type 0
HasBadPlan (Create plan exponent extendable) secret error = IsHexadecimal secret × IsPlanReading plan.now (Err error)
HasBadPlan (Reissue plan names) secret error = IsPlanReading plan.now (Err error)
HasBadPlan (Resplit plan file) secret error = IsPlanReading plan.now (Err error)
HasBadPlan _ secret error = ⊥

-- the text after whose quorum the job goes on is the written form of no names
abbrev pub HasBadCursor : Job → Type 0
HasBadCursor (Drill after limit form expected) = IsSomeAnd (text_in after) WritesNoNames
HasBadCursor _ = ⊥

-- the text after whose quorum the job goes on writes names, if there is one, and that of the fingerprint writes none
abbrev pub HasBadFingerprint : Job → Type 0
HasBadFingerprint (Recover form expected) = IsSomeAnd (text_in expected) WritesNoFingerprint
HasBadFingerprint (Drill after limit form expected) =
    IfSome (text_in after) WritesNames × IsSomeAnd (text_in expected) WritesNoFingerprint
HasBadFingerprint _ = ⊥

-- the text of the job's plan gives one, and that of its names is the written form of none
abbrev pub HasBadNames : Job → Type 0
HasBadNames (Reissue plan names) = GivesPlan plan.now × WritesNoNames names.now
HasBadNames _ = ⊥

-- the job can be begun with this text of its secret: each text gives its value, the secret, the plan, the cursor, the fingerprint and
-- the names
abbrev pub IsReady : Job → Text → Type 0
IsReady (Create plan exponent extendable) secret = IsHexadecimal secret × GivesPlan plan.now
IsReady (Recover form expected) secret = IfSome (text_in expected) WritesFingerprint
IsReady (Drill after limit form expected) secret =
    IfSome (text_in after) WritesNames × IfSome (text_in expected) WritesFingerprint
IsReady (Reissue plan names) secret = GivesPlan plan.now × WritesNames names.now
IsReady (Resplit plan file) secret = GivesPlan plan.now
IsReady _ secret = Unit {0}

-- the job has no cause for which it isn't begun
pub record HasNoCause (job : Job) (secret : Text) : Type 0 where
  pub no_bad_secret : HasBadSecret job secret → ⊥
  pub no_bad_plan : (error : PlanError) → HasBadPlan job secret error → ⊥
  pub no_bad_cursor : HasBadCursor job → ⊥
  pub no_bad_fingerprint : HasBadFingerprint job → ⊥
  pub no_bad_names : HasBadNames job → ⊥

-- ---- what is written

-- the names after which a drill continues: those that the given text writes, or none if no text is given
abbrev pub IsCursor : Option (Bor Text) → Option Names → Type 0
IsCursor None after = after ≡ None
IsCursor (Some text) after = (names : Names) × (after ≡ Some names) × IsWrittenForm text.now names

-- the fingerprint that is expected: the one that the given text writes, or none if no text is given
abbrev pub IsNoted : Option Text → Option NotedFingerprint → Type 0
IsNoted None noted = noted ≡ None
IsNoted (Some text) noted = (read : NotedFingerprint) × (noted ≡ Some read) × (noted_in text ≡ Ok read)

-- the form in which a drill tells secrets: whether they have the fingerprint that is expected, if one is
abbrev pub told_in : SecretForm → Option NotedFingerprint → SecretForm
told_in form None = form
told_in form (Some noted) = Expected noted

-- what a backup is created from is what these texts give: the secret in hexadecimal digits, and the plan
pub record AreRead (plan_text secret_text : Text) (secret : List ℕ) (group_threshold : ℕ) (groups : List Members) : Type 0 where
  pub secret_is : decode_of secret_text ≡ Ok secret
  pub plan_is : IsPlanReading plan_text (Ok (group_threshold, groups))

-- these are the options of this exponent and this flag
pub record AreOptions (exponent : ℕ) (extendable : Bool) (options : Options) : Type 0 where
  pub exponent_is : options.exponent ≡ exponent
  pub extendable_is : options.extendable ≡ extendable

-- `create` writes this text for these texts, the exponent, the flag and the input, and answers so
pub record CreatesFrom (plan_text secret_text passphrase : Text) (exponent : ℕ) (extendable : Bool) (input : Input) (text : List ℕ)
    (answer : Result (Unit {0}) Fault) : Type 0 where
  pub secret : List ℕ
  pub group_threshold : ℕ
  pub groups : List Members
  pub options : Options
  pub read : AreRead plan_text secret_text secret group_threshold groups
  pub given : AreOptions exponent extendable options
  pub output : IsCreateOutput (record {
    secret = secret;
    passphrase = passphrase;
    group_threshold = group_threshold;
    groups = groups;
    options = options;
  }) input text answer

-- `reissue` writes this text for these texts and the input, and answers so
pub record Reissues (plan_text names_text : Text) (input : Input) (text : List ℕ) (answer : Result (Unit {0}) Fault) : Type 0 where
  pub group_threshold : ℕ
  pub groups : List Members
  pub names : Names
  pub plan_is : IsPlanReading plan_text (Ok (group_threshold, groups))
  pub names_are : IsWrittenForm names_text names
  pub output : IsReissueOutput group_threshold groups names input text answer

-- `resplit` writes this text for the text of a plan, these random bytes and the input, and answers so
pub record Resplits (plan_text random : Text) (input : Input) (text : List ℕ) (answer : Result (Unit {0}) Fault) : Type 0 where
  pub group_threshold : ℕ
  pub groups : List Members
  pub plan_is : IsPlanReading plan_text (Ok (group_threshold, groups))
  pub output : IsResplitOutput group_threshold groups random input text answer

-- whether all is well, by what a run answers that is done, or its fault
abbrev pub judged : {T : Type 0} → (T → Bool) → Result T Fault → Result Bool Fault
judged is_well (Ok found) = Ok (is_well found)
judged is_well (Err fault) = Err fault

-- all is well wherever a run is done that answers nothing
abbrev pub where_done : Unit {0} → Bool
where_done _ = true

-- all is well with a drill that found no mismatch, and no other secret than the expected one
abbrev pub without_mismatches : Done → Bool
without_mismatches done = done.mismatches == 0

-- With this text of its secret and this passphrase, the job writes this text for the input, and answers so, whether all is well: each
-- other value is the job's, and its texts are read as above. In place of a secret, a split anew has its random bytes.
abbrev pub IsJobOutput : Job → Text → Text → Input → List ℕ → Result Bool Fault → Type 0
IsJobOutput Show secret passphrase input text answer =
    (plain : Result (Unit {0}) Fault) × IsShowOutput input text plain × (answer ≡ judged where_done plain)
IsJobOutput (Create plan exponent extendable) secret passphrase input text answer =
    (plain : Result (Unit {0}) Fault) × CreatesFrom plan.now secret passphrase exponent extendable input text plain
    × (answer ≡ judged where_done plain)
IsJobOutput (Recover form expected) secret passphrase input text answer =
    (noted : Option NotedFingerprint) × IsNoted (text_in expected) noted
    × ((plain : Result (Unit {0}) Fault) × IsRecoverOutput form noted passphrase input text plain × (answer ≡ judged where_done plain))
IsJobOutput (Drill after limit form expected) secret passphrase input text answer =
    (names : Option Names) × IsCursor after names × ((noted : Option NotedFingerprint) × IsNoted (text_in expected) noted
    × ((found : Result Done Fault) × IsDrillOutput (told_in form noted) passphrase names limit input text found
    × (answer ≡ judged without_mismatches found)))
IsJobOutput Status secret passphrase input text answer =
    (found : Result SetStatus Fault) × IsStatusOutput input text found × (answer ≡ judged is_enough found)
IsJobOutput (Reissue plan names) secret passphrase input text answer =
    (plain : Result (Unit {0}) Fault) × Reissues plan.now names.now input text plain × (answer ≡ judged where_done plain)
IsJobOutput Repair secret passphrase input text answer = IsRepairOutput input text answer
IsJobOutput (Resplit plan file) random passphrase input text answer =
    (plain : Result (Unit {0}) Fault) × Resplits plan.now random input text plain × (answer ≡ judged where_done plain)

-- the exit status of a refusal: 3 if a device failed, and otherwise 1
abbrev pub status_of_refusal : Refusal → ℕ
status_of_refusal (Device _) = 3
status_of_refusal _ = 1

-- the exit status of a run that answers so: 0 where all is well, and else 1, or that of its refusal
abbrev pub status_of : Result Bool Fault → ℕ
status_of (Ok is_well) = if is_well then 0 else 1
status_of (Err fault) = status_of_refusal fault.refusal
