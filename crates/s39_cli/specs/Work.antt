-- What is run for a job. No public contract cites this.
use Rattle.std.specs.Prelude.{◌≡◌, ℕ, All, Bool, List, Option, Result, Ok}
use Rattle.std.specs.Borrow.{Bor}
use Rattle.clap.specs.Words.{Text}
use Rattle.s39_set.specs.Status.{is_enough}
use Rattle.s39_set.specs.Written.{IsWrittenForm}
use Rattle.s39_set.specs.declared.status.Status.{Status}
use Rattle.s39_backup.specs.Plan.{IsPlanReading}
use Rattle.s39_input.specs.declared.fault.Fault.{Fault}
use Rattle.s39_drilling.specs.declared.drill.Done.{Done}
use Rattle.s39_kdf.specs.Limits.{IsPrintable}
use Rattle.s39_kdf.specs.declared.noted.NotedFingerprint.{NotedFingerprint}
use Rattle.s39_kdf.specs.declared.secret_form.SecretForm.{SecretForm}
use Rattle.s39_input.specs.Input.{Input}
use Rattle.s39_input.specs.Show.{IsShowOutput}
use Rattle.s39_input.specs.Repair.{IsRepairOutput}
use Rattle.s39_input.specs.Create.{IsCreateOutput}
use Rattle.s39_reading.specs.Recover.{IsRecoverOutput}
use Rattle.s39_drilling.specs.Drill.{IsDrillOutput}
use Rattle.s39_reading.specs.Status.{IsStatusOutput}
use Rattle.s39_creating.specs.Reissue.{IsReissueOutput}
use Rattle.s39_creating.specs.Resplit.{IsResplitOutput}
use Rattle.s39_command.specs.Command.{text_in}
use Rattle.s39_command.specs.declared.command.Job.{Job}
use Rattle.s39_command.specs.declared.command.Job.TheVariants as job
use Rattle.s39_cli.specs.declared.work.Creation.{Creation}
use Rattle.s39_cli.specs.declared.work.Drill.{Drill}
use Rattle.s39_cli.specs.declared.work.Reissue.{Reissue}
use Rattle.s39_cli.specs.declared.work.Resplit.{Resplit}
use Rattle.s39_cli.specs.declared.work.Work.{Work}
use Rattle.s39_cli.specs.declared.work.Work.TheVariants as work
use Rattle.s39_cli.specs.Outcome.{AreRead, AreOptions, IsCursor, IsNoted, judged, told_in, where_done, without_mismatches}

-- the creation has what these texts, the exponent and the flag give
pub record IsCreationOf (plan_text secret_text given_passphrase : Text) (exponent : ℕ) (extendable : Bool) (creation : Creation) : Type 0 where
  pub read : AreRead plan_text secret_text creation.secret.bytes.items creation.plan.group_threshold creation.plan.groups.items
  pub passphrase_is : creation.passphrase.now ≡ given_passphrase
  pub given : AreOptions exponent extendable creation.options

-- the drill has the values that are given
pub record IsDrillOf (given_passphrase : Text) (given_after : Option (Bor Text)) (given_limit : ℕ) (given_form : SecretForm)
    (given_expected : Option (Bor Text)) (drill : Drill) : Type 0 where
  pub noted : Option NotedFingerprint
  pub passphrase_is : drill.passphrase.now ≡ given_passphrase
  pub cursor : IsCursor given_after drill.after
  pub limit_is : drill.limit ≡ given_limit
  pub noted_is : IsNoted (text_in given_expected) noted
  pub form_is : drill.form ≡ told_in given_form noted

-- what is reissued is what the texts of a plan and of names give
pub record IsReissueOf (plan_text names_text : Text) (reissue : Reissue) : Type 0 where
  pub plan_is : IsPlanReading plan_text (Ok (reissue.plan.group_threshold, reissue.plan.groups.items))
  pub names_are : IsWrittenForm names_text reissue.names

-- what is split anew has what the text of a plan gives, and these random bytes
pub record IsResplitOf (plan_text given_random : Text) (resplit : Resplit) : Type 0 where
  pub plan_is : IsPlanReading plan_text (Ok (resplit.plan.group_threshold, resplit.plan.groups.items))
  pub random_is : resplit.random.now ≡ given_random

-- the work is the job's, with this text of its secret and this passphrase
abbrev pub IsWorkOf : Job → Text → Text → Work → Type 0
IsWorkOf job.Show secret passphrase w = w ≡ work.Show
IsWorkOf (job.Create plan exponent extendable) secret passphrase w =
    (creation : Creation) × (w ≡ work.Create creation) × IsCreationOf plan.now secret passphrase exponent extendable creation
IsWorkOf (job.Recover form expected) secret passphrase w = (given : Bor Text) × (noted : Option NotedFingerprint)
    × (w ≡ work.Recover given form noted) × (given.now ≡ passphrase) × IsNoted (text_in expected) noted
IsWorkOf (job.Drill after limit form expected) secret passphrase w =
    (drill : Drill) × (w ≡ work.Drill drill) × IsDrillOf passphrase after limit form expected drill
IsWorkOf job.Status secret passphrase w = w ≡ work.Status
IsWorkOf (job.Reissue plan names) secret passphrase w = (reissue : Reissue) × (w ≡ work.Reissue reissue) × IsReissueOf plan.now names.now reissue
IsWorkOf job.Repair secret passphrase w = w ≡ work.Repair
IsWorkOf (job.Resplit plan file) random passphrase w = (resplit : Resplit) × (w ≡ work.Resplit resplit) × IsResplitOf plan.now random resplit

-- a byte of the work's passphrase isn't printable
abbrev pub HasBadPassphrase : Work → Type 0
HasBadPassphrase (work.Recover passphrase form expected) = ¬ All IsPrintable passphrase.now
HasBadPassphrase (work.Drill drill) = ¬ All IsPrintable drill.passphrase.now
HasBadPassphrase _ = ⊥

-- the work writes this text for the input, and answers so, whether all is well
abbrev pub IsWorkOutput : Work → Input → List ℕ → Result Bool Fault → Type 0
IsWorkOutput work.Show input text answer =
    (plain : Result (Unit {0}) Fault) × IsShowOutput input text plain × (answer ≡ judged where_done plain)
IsWorkOutput (work.Create creation) input text answer =
    (plain : Result (Unit {0}) Fault) × IsCreateOutput (record {
      secret = creation.secret.bytes.items;
      passphrase = creation.passphrase.now;
      group_threshold = creation.plan.group_threshold;
      groups = creation.plan.groups.items;
      options = creation.options;
    }) input text plain × (answer ≡ judged where_done plain)
IsWorkOutput (work.Recover passphrase form expected) input text answer =
    (plain : Result (Unit {0}) Fault) × IsRecoverOutput form expected passphrase.now input text plain × (answer ≡ judged where_done plain)
IsWorkOutput (work.Drill drill) input text answer =
    (found : Result Done Fault) × IsDrillOutput drill.form drill.passphrase.now drill.after drill.limit input text found
    × (answer ≡ judged without_mismatches found)
IsWorkOutput work.Status input text answer =
    (found : Result Status Fault) × IsStatusOutput input text found × (answer ≡ judged is_enough found)
IsWorkOutput (work.Reissue reissue) input text answer =
    (plain : Result (Unit {0}) Fault)
    × IsReissueOutput reissue.plan.group_threshold reissue.plan.groups.items reissue.names input text plain
    × (answer ≡ judged where_done plain)
IsWorkOutput work.Repair input text answer = IsRepairOutput input text answer
IsWorkOutput (work.Resplit resplit) input text answer =
    (plain : Result (Unit {0}) Fault)
    × IsResplitOutput resplit.plan.group_threshold resplit.plan.groups.items resplit.random.now input text plain
    × (answer ≡ judged where_done plain)
