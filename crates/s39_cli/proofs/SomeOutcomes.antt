-- A job that can be begun writes something for each input.
use Rattle.std.proofs.Common.{◌≡◌, ◌<◌, ◌≤◌, ◌^◌, ℕ, suc, zero, Bool, List, Bor, IfSome, Option, Some, None, Result, refl, subst, arith}
use Rattle.std.proofs.lemmas.List.{get_or_default}
use Rattle.hex.proofs.HexLemmas.{decode_of-ok}
use Rattle.s39_kdf.specs.Bytes.{AreBytes}
use Rattle.s39_kdf.specs.Limits.{exponent_bits}
use Rattle.s39_set.specs.Names.{Names}
use Rattle.s39_set.specs.Status.{is_enough}
use Rattle.s39_backup.specs.Created.{Asked, asked_for}
use Rattle.s39_backup.specs.Plan.{IsPlan}
use Rattle.s39_backup.specs.declared.options.Options.{Options}
use Rattle.s39_backup.specs.declared.plan.Members.{Members}
use Rattle.s39_input.specs.declared.fault.Fault.{Fault}
use Rattle.clap.specs.Words.{Text}
use Rattle.s39_kdf.specs.declared.noted.NotedFingerprint.{NotedFingerprint}
use Rattle.s39_kdf.specs.declared.secret_form.SecretForm.{SecretForm}
use Rattle.s39_input.specs.Input.{Input}
use Rattle.s39_input.specs.Show.{IsShowOutput}
use Rattle.s39_input.specs.Repair.{IsRepairOutput}
use Rattle.s39_input.specs.Create.{IsCreateOutput}
use Rattle.s39_reading.specs.Recover.{IsRecoverOutput}
use Rattle.s39_drilling.specs.Drill.{IsDrillOutput}
use Rattle.s39_reading.specs.Status.{IsStatusOutput}
use Rattle.s39_creating.specs.Reissue.{IsReissueOutput}
use Rattle.s39_creating.specs.Resplit.{IsResplitOutput}
use Rattle.s39_command.specs.declared.command.Job.{Job}
use Rattle.s39_command.specs.declared.command.Job.TheVariants as job
use Rattle.s39_command.specs.Command.{IsInRange, text_in}
use Rattle.s39_cli.specs.Headline.{DrawsBytes, SomeOutcome}
use Rattle.s39_cli.specs.Outcome.{IsCursor, IsHexadecimal, IsJobOutput, IsNoted, IsReady, WritesFingerprint, WritesNames, judged, status_of, told_in, where_done}
use Rattle.s39_cli.specs.Outcome.{without_mismatches}

-- some text is written with some answer
abbrev Some_of : {T : Type 0} → (List ℕ → T → Type 0) → Type 0
Some_of {T} Is = (text : List ℕ) × (answer : T) × Is text answer

judged_some : {T : Type 0} (is_well : T → Bool) (Is : List ℕ → Result T Fault → Type 0) → Some_of Is
    → Some_of (λ text (answer : Result Bool Fault). (found : Result T Fault) × Is text found × (answer ≡ judged is_well found))
judged_some is_well Is some = (some.0, judged is_well some.1, (some.1, some.2, refl))

-- what hexadecimal digits write is bytes
decoded_bytes : (text : List ℕ) (is : IsHexadecimal text) → AreBytes is.0
decoded_bytes text is k d below =
    let bytes = (decode_of-ok text is.0 is.1).3 in
    subst (λ (byte : ℕ). byte < 256) (get_or_default is.0 k 0 d below) (bytes k)

-- there are options of each exponent in its range and each flag
abbrev options_of : (e : ℕ) → Bool → e < 2 ^ exponent_bits → Options
options_of e x small = record { exponent = e; extendable = x; exponent_in_range = small }

-- what a text writes, if there is one
some_noted : (text : Option Text) → IfSome text WritesFingerprint → (noted : Option NotedFingerprint) × IsNoted text noted
some_noted None writes = (None, refl)
some_noted (Some text) writes = (Some writes.0, (writes.0, refl, writes.1))

some_cursor : (after : Option (Bor Text)) → IfSome (text_in after) WritesNames → (names : Option Names) × IsCursor after names
some_cursor None writes = (None, refl)
some_cursor (Some text) writes = (Some writes.0, (writes.0, refl, writes.1))

module _ (shows : (input : Input) → Some_of (IsShowOutput input))
    (creates : (asked : Asked) (input : Input) → IsPlan asked.group_threshold asked.groups → AreBytes asked.secret → AreBytes input.bytes
    → Some_of (IsCreateOutput asked input))
    (recovers : (form : SecretForm) (expected : Option NotedFingerprint) (passphrase : List ℕ) (input : Input)
    → Some_of (IsRecoverOutput form expected passphrase input))
    (drills : (form : SecretForm) (passphrase : List ℕ) (after : Option Names) (limit : ℕ) (input : Input)
    → Some_of (IsDrillOutput form passphrase after (suc limit) input))
    (statuses : (input : Input) → Some_of (IsStatusOutput input))
    (reissues : (group_threshold : ℕ) (groups : List Members) (names : Names) (input : Input) → IsPlan group_threshold groups
    → Some_of (IsReissueOutput group_threshold groups names input))
    (resplits : (group_threshold : ℕ) (groups : List Members) (random : List ℕ) (input : Input) → IsPlan group_threshold groups → AreBytes random
    → Some_of (IsResplitOutput group_threshold groups random input))
    (repairs : (input : Input) → Some_of (IsRepairOutput input)) where
  some_drill : (form : SecretForm) (passphrase : List ℕ) (after : Option Names) (limit : ℕ) (input : Input) → 1 ≤ limit
      → Some_of (IsDrillOutput form passphrase after limit input)
  some_drill form passphrase after zero input low = absurd (omega arith)
  some_drill form passphrase after (suc limit) input low = drills form passphrase after limit input

  some_output : (j : Job) (s p : Text) (input : Input) → IsReady j s → IsInRange j → DrawsBytes j s → AreBytes input.bytes
      → Some_of (IsJobOutput j s p input)
  some_output job.Show s p input ready low drawn bytes = judged_some where_done (IsShowOutput input) (shows input)
  some_output (job.Create plan e x) s p input ready low drawn bytes =
      let options = options_of e x low in
      let asked = asked_for ready.0.0 p ready.1.0 ready.1.1 options in
      let some = creates asked input ready.1.2.1 (decoded_bytes s ready.0) bytes in (
        some.0,
        judged where_done some.1,
        (
          some.1,
          record {
            secret = ready.0.0;
            group_threshold = ready.1.0;
            groups = ready.1.1;
            options = options;
            read = record { secret_is = ready.0.1; plan_is = ready.1.2 };
            given = record { exponent_is = refl; extendable_is = refl };
            output = some.2;
          },
          refl,
        ),
      )
  some_output (job.Recover form expected) s p input ready low drawn bytes =
      let noted = some_noted (text_in expected) ready in
      let some = judged_some where_done (IsRecoverOutput form noted.0 p input) (recovers form noted.0 p input) in
      (some.0, some.1, (noted.0, noted.1, some.2))
  some_output (job.Drill after limit form expected) s p input ready low drawn bytes =
      let from = some_cursor after ready.0 in
      let noted = some_noted (text_in expected) ready.1 in
      let told = told_in form noted.0 in
      let some = judged_some without_mismatches (IsDrillOutput told p from.0 limit input)
      (some_drill told p from.0 limit input low) in
      (some.0, some.1, (from.0, from.1, (noted.0, noted.1, some.2)))
  some_output job.Status s p input ready low drawn bytes = judged_some is_enough (IsStatusOutput input) (statuses input)
  some_output (job.Reissue plan names) s p input ready low drawn bytes =
      let some = reissues ready.0.0 ready.0.1 ready.1.0 input ready.0.2.1 in (
        some.0,
        judged where_done some.1,
        (
          some.1,
          record {
            group_threshold = ready.0.0;
            groups = ready.0.1;
            names = ready.1.0;
            plan_is = ready.0.2;
            names_are = ready.1.1;
            output = some.2;
          },
          refl,
        ),
      )
  some_output job.Repair s p input ready low drawn bytes = repairs input
  some_output (job.Resplit plan file) s p input ready low drawn bytes =
      let some = resplits ready.0 ready.1 s input ready.2.1 drawn in (
        some.0,
        judged where_done some.1,
        (some.1, record { group_threshold = ready.0; groups = ready.1; plan_is = ready.2; output = some.2 }, refl),
      )

  pub some_outcome : SomeOutcome
  some_outcome j s p input ready low drawn bytes =
      let some = some_output j s p input ready low drawn bytes in
      (some.0, status_of some.1, (some.1, some.2, refl))
