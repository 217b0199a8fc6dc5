-- A job writes one text for an input, and answers once.
use Rattle.std.proofs.Common.{◌≡◌, ◌∙◌, ◌<◌, ◌^◌, ℕ, Bool, Bor, List, Option, Some, None, Result, Ok, ap, subst, sym}
use Rattle.std.proofs.Math.Bridge.{le_prop}
use Rattle.s39_kdf.specs.Limits.{exponent_bits}
use Rattle.s39_set.specs.Names.{Names}
use Rattle.s39_set.specs.Status.{is_enough}
use Rattle.s39_set.specs.Written.{IsWrittenForm}
use Rattle.s39_backup.specs.Created.{Asked, asked_for}
use Rattle.s39_backup.specs.Plan.{IsPlan, IsPlanReading}
use Rattle.s39_backup.specs.declared.options.Options.{Options}
use Rattle.s39_backup.specs.declared.plan.Members.{Members}
use Rattle.s39_backup.specs.declared.plan_error.PlanError.{PlanError}
use Rattle.s39_input.specs.declared.fault.Fault.{Fault}
use Rattle.s39_command.specs.Command.{text_in}
use Rattle.s39_kdf.specs.declared.noted.NotedFingerprint.{NotedFingerprint}
use Rattle.s39_kdf.specs.declared.secret_form.SecretForm.{SecretForm}
use Rattle.s39_input.specs.Input.{Input}
use Rattle.s39_input.specs.Show.{IsShowOutput}
use Rattle.s39_input.specs.Repair.{IsRepairOutput}
use Rattle.s39_input.specs.Create.{IsCreateOutput}
use Rattle.s39_reading.specs.Recover.{IsRecoverOutput}
use Rattle.s39_drilling.specs.Drill.{IsDrillOutput}
use Rattle.s39_reading.specs.Status.{IsStatusOutput}
use Rattle.s39_creating.specs.Reissue.{IsReissueOutput}
use Rattle.s39_creating.specs.Resplit.{IsResplitOutput}
use Rattle.s39_command.specs.declared.command.Job.{Job}
use Rattle.s39_command.specs.declared.command.Job.TheVariants as job
use Rattle.s39_cli.specs.Headline.{OneOutcome}
use Rattle.s39_cli.specs.Outcome.{AreOptions, CreatesFrom, IsCursor, IsJobOutput, IsNoted, judged, status_of, told_in, where_done, without_mismatches}

abbrev Plain : Type 0
Plain = Result (Unit {0}) Fault

-- an output is so for one text and one answer
abbrev IsOnce : {T : Type 0} → (Input → List ℕ → T → Type 0) → Type 0
IsOnce {T} Is = (input : Input) (text other : List ℕ) (answer another : T) → Is input text answer → Is input other another → (text ≡ other) × (answer ≡ another)

judged_once : {T : Type 0} (is_well : T → Bool) (Is : Input → List ℕ → Result T Fault → Type 0) → IsOnce Is
    → IsOnce (λ input text (answer : Result Bool Fault). (found : Result T Fault) × Is input text found × (answer ≡ judged is_well found))
judged_once is_well Is once input text other answer another a b =
    let same = once input text other a.0 b.0 a.1 b.1 in
    (same.0, a.2 ∙ ap (judged is_well) same.1 ∙ sym b.2)

same_ok : {T E : Type 0} {x y : T} → ◌≡◌ {A = Result T E} (Ok x) (Ok y) → x ≡ y
same_ok same = cc

-- options are known by their fields
abbrev of_fields : (e : ℕ) → Bool → e < 2 ^ exponent_bits → Options
of_fields e x small = record { exponent = e; extendable = x; exponent_in_range = small }

same_options : (e : ℕ) (x : Bool) (a b : Options) → AreOptions e x a → AreOptions e x b → a ≡ b
same_options e x a b is also =
    subst (λ (f : Bool). a ≡ of_fields b.exponent f b.exponent_in_range) (is.extendable_is ∙ sym also.extendable_is)
    (subst (λ (n : ℕ). (small : n < 2 ^ exponent_bits) → a ≡ of_fields n a.extendable small) (is.exponent_is ∙ sym also.exponent_is)
    (λ small. ap (λ (r : a.exponent < 2 ^ exponent_bits). of_fields a.exponent a.extendable r) (le_prop a.exponent_in_range small))
    b.exponent_in_range)

-- a text writes one fingerprint
one_noted : (text : Option (List ℕ)) (a b : Option NotedFingerprint) → IsNoted text a → IsNoted text b → a ≡ b
one_noted None a b is also = is ∙ sym also
one_noted (Some text) a b is also =
    let same : is.0 ≡ also.0 = same_ok (sym is.2 ∙ also.2) in
    is.1 ∙ ap (λ (n : NotedFingerprint). Some n) same ∙ sym also.1

module _ (names_once : (text : List ℕ) (names others : Names) → IsWrittenForm text names → IsWrittenForm text others → names ≡ others) where
  one_cursor : (after : Option (Bor (List ℕ))) (a b : Option Names) → IsCursor after a → IsCursor after b → a ≡ b
  one_cursor None a b is also = is ∙ sym also
  one_cursor (Some text) a b is also =
      is.1 ∙ ap (λ (n : Names). Some n) (names_once text.now is.0 also.0 is.2 also.2) ∙ sym also.1

module _ (shows : IsOnce IsShowOutput) (creates : (asked : Asked) → IsOnce (IsCreateOutput asked))
    (recovers : (form : SecretForm) (expected : Option NotedFingerprint) (passphrase : List ℕ) → IsOnce (IsRecoverOutput form expected passphrase))
    (drills : (form : SecretForm) (passphrase : List ℕ) (after : Option Names) (limit : ℕ) → IsOnce (IsDrillOutput form passphrase after limit))
    (statuses : IsOnce IsStatusOutput)
    (reissues : (group_threshold : ℕ) (groups : List Members) (names : Names) → IsPlan group_threshold groups
    → IsOnce (IsReissueOutput group_threshold groups names))
    (resplits : (group_threshold : ℕ) (groups : List Members) (random : List ℕ) → IsOnce (IsResplitOutput group_threshold groups random))
    (repairs : IsOnce IsRepairOutput)
    (plan_once : (text : List ℕ) (reading other : Result (ℕ × List Members) PlanError) → IsPlanReading text reading → IsPlanReading text other
    → reading ≡ other)
    (names_once : (text : List ℕ) (names others : Names) → IsWrittenForm text names → IsWrittenForm text others → names ≡ others) where
  creates_once : (plan secret passphrase : List ℕ) (e : ℕ) (x : Bool) → IsOnce (CreatesFrom plan secret passphrase e x)
  creates_once plan secret passphrase e x input text other answer another a b =
      let secrets : a.secret ≡ b.secret = same_ok (sym a.read.secret_is ∙ b.read.secret_is) in
      let plans : (a.group_threshold, a.groups) ≡ (b.group_threshold, b.groups) =
      same_ok (plan_once plan (Ok (a.group_threshold, a.groups)) (Ok (b.group_threshold, b.groups)) a.read.plan_is b.read.plan_is) in
      let options = same_options e x a.options b.options a.given b.given in
      creates (asked_for b.secret passphrase b.group_threshold b.groups b.options) input text other answer another
      (subst (λ (o : Options). IsCreateOutput (asked_for b.secret passphrase b.group_threshold b.groups o) input text answer) options
      (subst (λ (p : ℕ × List Members). IsCreateOutput (asked_for b.secret passphrase p.0 p.1 a.options) input text answer) plans
      (subst (λ (s : List ℕ). IsCreateOutput (asked_for s passphrase a.group_threshold a.groups a.options) input text answer) secrets a.output))) b.output

  recover_once : (secret passphrase : List ℕ) (form : SecretForm) (expected : Option (Bor (List ℕ)))
      → IsOnce (IsJobOutput (job.Recover form expected) secret passphrase)
  recover_once secret passphrase form expected input text other answer another a b =
      let noted = one_noted (text_in expected) a.0 b.0 a.1 b.1 in
      judged_once where_done (IsRecoverOutput form b.0 passphrase) (recovers form b.0 passphrase) input text other answer another
      (a.2.0, subst (λ (n : Option NotedFingerprint). IsRecoverOutput form n passphrase input text a.2.0) noted a.2.1, a.2.2) b.2

  drill_once : (secret passphrase : List ℕ) (after : Option (Bor (List ℕ))) (limit : ℕ) (form : SecretForm) (expected : Option (Bor (List ℕ)))
      → IsOnce (IsJobOutput (job.Drill after limit form expected) secret passphrase)
  drill_once secret passphrase after limit form expected input text other answer another a b =
      let cursor = one_cursor names_once after a.0 b.0 a.1 b.1 in
      let noted = one_noted (text_in expected) a.2.0 b.2.0 a.2.1 b.2.1 in
      let told = told_in form b.2.0 in
      judged_once without_mismatches (IsDrillOutput told passphrase b.0 limit) (drills told passphrase b.0 limit) input text other answer another (
        a.2.2.0,
        subst (λ (n : Option NotedFingerprint). IsDrillOutput (told_in form n) passphrase b.0 limit input text a.2.2.0) noted
            (subst (λ (o : Option Names). IsDrillOutput (told_in form a.2.0) passphrase o limit input text a.2.2.0) cursor a.2.2.1),
        a.2.2.2,
      ) b.2.2

  reissue_once : (secret passphrase : List ℕ) (plan names : Bor (List ℕ)) → IsOnce (IsJobOutput (job.Reissue plan names) secret passphrase)
  reissue_once secret passphrase plan names input text other answer another a b =
      let x = a.1 in
      let y = b.1 in
      let plans : (x.group_threshold, x.groups) ≡ (y.group_threshold, y.groups) =
      same_ok (plan_once plan.now (Ok (x.group_threshold, x.groups)) (Ok (y.group_threshold, y.groups)) x.plan_is y.plan_is) in
      let listed = names_once names.now x.names y.names x.names_are y.names_are in
      let same = reissues y.group_threshold y.groups y.names y.plan_is.1 input text other a.0 b.0
      (subst (λ (p : ℕ × List Members). IsReissueOutput p.0 p.1 y.names input text a.0) plans
      (subst (λ (n : Names). IsReissueOutput x.group_threshold x.groups n input text a.0) listed x.output)) y.output in
      (same.0, a.2 ∙ ap (judged where_done) same.1 ∙ sym b.2)

  resplit_once : (random passphrase : List ℕ) (plan file : Bor (List ℕ)) → IsOnce (IsJobOutput (job.Resplit plan file) random passphrase)
  resplit_once random passphrase plan file input text other answer another a b =
      let x = a.1 in
      let y = b.1 in
      let plans : (x.group_threshold, x.groups) ≡ (y.group_threshold, y.groups) =
      same_ok (plan_once plan.now (Ok (x.group_threshold, x.groups)) (Ok (y.group_threshold, y.groups)) x.plan_is y.plan_is) in
      let same = resplits y.group_threshold y.groups random input text other a.0 b.0
      (subst (λ (p : ℕ × List Members). IsResplitOutput p.0 p.1 random input text a.0) plans x.output) y.output in
      (same.0, a.2 ∙ ap (judged where_done) same.1 ∙ sym b.2)

  output_once : (j : Job) (secret passphrase : List ℕ) → IsOnce (IsJobOutput j secret passphrase)
  output_once job.Show s p = judged_once where_done IsShowOutput shows
  output_once (job.Create plan e x) s p = judged_once where_done (CreatesFrom plan.now s p e x) (creates_once plan.now s p e x)
  output_once (job.Recover form expected) s p = recover_once s p form expected
  output_once (job.Drill after limit form expected) s p = drill_once s p after limit form expected
  output_once job.Status s p = judged_once is_enough IsStatusOutput statuses
  output_once (job.Reissue plan names) s p = reissue_once s p plan names
  output_once job.Repair s p = repairs
  output_once (job.Resplit plan file) s p = resplit_once s p plan file

  pub one_outcome : OneOutcome
  one_outcome j s p input text other status another a b =
      let same = output_once j s p input text other a.0 b.0 a.1 b.1 in
      (same.0, a.2 ∙ ap status_of same.1 ∙ sym b.2)
