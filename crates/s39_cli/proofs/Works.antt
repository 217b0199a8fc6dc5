-- What a work writes is what its job writes.
use Rattle.std.proofs.Common.{◌≡◌, ◌+◌, ◌∙◌, ℕ, Bool, List, Option, None, Some, Result, Ok, Err, Bor, IfSome, IsSomeAnd, ap, refl, sym, subst}
use Rattle.hex.specs.Hex.{decode_of}
use Rattle.clap.specs.Words.{Text}
use Rattle.s39_kdf.specs.declared.noted.BadFingerprint.{BadFingerprint}
use Rattle.s39_kdf.specs.declared.noted.NotedFingerprint.{NotedFingerprint}
use Rattle.s39_set.specs.Names.{Names}
use Rattle.s39_command.specs.Command.{text_in}
use Rattle.s39_backup.specs.declared.plan.Members.{Members}
use Rattle.s39_backup.specs.declared.plan_error.PlanError.{PlanError}
use Rattle.s39_backup.proofs.PlanReadings.{reading_once}
use Rattle.s39_input.specs.declared.fault.Fault.{Fault}
use Rattle.s39_kdf.specs.declared.secret_form.SecretForm.{SecretForm}
use Rattle.s39_input.specs.Device.{Counted}
use Rattle.s39_input.specs.Fault.{read_failures, write_failures}
use Rattle.s39_input.specs.Input.{Input}
use Rattle.s39_input.specs.Runs.{Runs}
use Rattle.s39_input.proofs.Runs.Devices.{OfInput-map}
use Rattle.s39_input.specs.Create.{IsCreateOutput}
use Rattle.s39_reading.specs.Recover.{IsRecoverOutput}
use Rattle.s39_creating.specs.Resplit.{IsResplitOutput}
use Rattle.s39_drilling.specs.Drill.{IsDrillOutput}
use Rattle.s39_command.specs.declared.command.Job.{Job}
use Rattle.s39_command.specs.declared.command.Job.TheVariants as job
use Rattle.s39_cli.specs.declared.work.Work.{Work}
use Rattle.s39_backup.specs.Plan.{IsPlanReading}
use Rattle.s39_cli.specs.Outcome.{GivesPlan, HasNoCause, IsCursor, IsJobOutput, IsNoted, IsReady, judged}
use Rattle.s39_cli.specs.Outcome.{WritesFingerprint, WritesNames, WritesNoFingerprint, WritesNoNames}
use Rattle.s39_cli.specs.Work.{IsWorkOf, IsWorkOutput}

same_reads : {T : Type 0} (is_well : T → Bool) (answer : Result T Fault) → read_failures (judged is_well answer) ≡ read_failures answer
same_reads is_well (Ok found) = refl
same_reads is_well (Err fault) = refl

same_writes : {T : Type 0} (is_well : T → Bool) (answer : Result T Fault) → write_failures (judged is_well answer) ≡ write_failures answer
same_writes is_well (Ok found) = refl
same_writes is_well (Err fault) = refl

-- a run, as one that answers whether all is well
pub Runs-judged : {R W T : Type 0} (remaining : R → Option (List ℕ)) (contents : W → Option (List ℕ)) (is_well : T → Bool)
    (IsOutput : Input → List ℕ → Result T Fault → Type 0) (Follows : Input → List ℕ → Result Bool Fault → Type 0)
    (reader read_to : Counted R) (writer written_to : Counted W) (answer : Result T Fault) (given : Result Bool Fault)
    → Runs remaining contents IsOutput reader read_to writer written_to answer → given ≡ judged is_well answer
    → ((input : Input) (text : List ℕ) (full : Result T Fault) → IsOutput input text full → Follows input text (judged is_well full))
    → Runs remaining contents Follows reader read_to writer written_to given
Runs-judged remaining contents is_well IsOutput Follows reader read_to writer written_to answer given runs is then =
    subst (Runs remaining contents Follows reader read_to writer written_to) (sym is) (record {
      output = OfInput-map runs.output (λ input w. record {
        text = w.text;
        full_answer = judged is_well w.full_answer;
        output = then input w.text w.full_answer w.output;
        written = w.written;
        unwritten = w.unwritten;
        parts = w.parts;
        appends = w.appends;
        whole = λ same. (let both = w.whole same in (both.0, ap (judged is_well) both.1));
        cut_short = λ other. ap (judged is_well) (w.cut_short other);
      });
      read_failures_are = runs.read_failures_are ∙ ap (λ n. reader.failures + n) (sym (same_reads is_well answer));
      write_failures_are = runs.write_failures_are ∙ ap (λ n. writer.failures + n) (sym (same_writes is_well answer));
    })

ok_or_err : {T E : Type 0} (r : Result T E) (t : T) (e : E) → r ≡ Ok t → r ≡ Err e → ⊥
ok_or_err r t e good bad = cc

plan_or_error : (text : List ℕ) (error : PlanError) → GivesPlan text → IsPlanReading text (Err error) → ⊥
plan_or_error text error gives refused =
    let same : ◌≡◌ {A = Result (ℕ × List Members) PlanError} (Ok (gives.0, gives.1)) (Err error) =
    reading_once text (Ok (gives.0, gives.1)) (Err error) gives.2 refused in
    cc

-- texts that write names and fingerprints don't write none
cursor_or_not : (text : Option Text) → IfSome text WritesNames → IsSomeAnd text WritesNoNames → ⊥
cursor_or_not None writes none = none
cursor_or_not (Some text) writes none = none writes.0 writes.1

noted_or_not : (text : Option Text) → IfSome text WritesFingerprint → IsSomeAnd text WritesNoFingerprint → ⊥
noted_or_not None writes none = none
noted_or_not (Some text) writes none =
    let differ : ◌≡◌ {A = Result NotedFingerprint BadFingerprint} (Ok writes.0) (Err none.0) = sym writes.1 ∙ none.1 in cc

-- a fingerprint that is expected is one that the text writes
noted_written : (text : Option Text) (noted : Option NotedFingerprint) → IsNoted text noted → IfSome text WritesFingerprint
noted_written None noted is = tt
noted_written (Some text) noted is = (is.0, is.2)

cursor_written : (after : Option (Bor Text)) (names : Option Names) → IsCursor after names → IfSome (text_in after) WritesNames
cursor_written None names is = tt
cursor_written (Some text) names is = (is.0, is.2)

-- a job that a work is of can be begun
pub ready_of_work : (j : Job) (secret passphrase : Text) (w : Work) → IsWorkOf j secret passphrase w → IsReady j secret
ready_of_work (job.Create plan exponent extendable) s p w is = (
  (is.0.secret.bytes.items, is.2.read.secret_is),
  (is.0.plan.group_threshold, is.0.plan.groups.items, is.2.read.plan_is),
)
ready_of_work (job.Drill after limit form expected) s p w is =
    (cursor_written after is.0.after is.2.cursor, noted_written (text_in expected) is.2.noted is.2.noted_is)
ready_of_work (job.Reissue plan names) s p w is = ((is.0.plan.group_threshold, is.0.plan.groups.items, is.2.plan_is), (is.0.names, is.2.names_are))
ready_of_work (job.Recover form expected) s p w is = noted_written (text_in expected) is.1 is.4
ready_of_work job.Show s p w is = tt
ready_of_work job.Status s p w is = tt
ready_of_work job.Repair s p w is = tt
ready_of_work (job.Resplit plan file) s p w is = (is.0.plan.group_threshold, is.0.plan.groups.items, is.2.plan_is)

-- and has no cause for which it isn't begun
pub no_cause : (j : Job) (secret : Text) → IsReady j secret → HasNoCause j secret
no_cause (job.Create plan exponent extendable) s ready = record {
  no_bad_secret = λ bad. ok_or_err (decode_of s) ready.0.0 bad.0 ready.0.1 bad.1;
  no_bad_plan = λ error bad. plan_or_error plan.now error ready.1 bad.1;
  no_bad_cursor = λ bad. bad;
  no_bad_fingerprint = λ bad. bad;
  no_bad_names = λ bad. bad;
}
no_cause (job.Recover form expected) s ready = record {
  no_bad_secret = λ bad. bad;
  no_bad_plan = λ error bad. bad;
  no_bad_cursor = λ bad. bad;
  no_bad_fingerprint = noted_or_not (text_in expected) ready;
  no_bad_names = λ bad. bad;
}
no_cause (job.Drill after limit form expected) s ready = record {
  no_bad_secret = λ bad. bad;
  no_bad_plan = λ error bad. bad;
  no_bad_cursor = cursor_or_not (text_in after) ready.0;
  no_bad_fingerprint = λ bad. noted_or_not (text_in expected) ready.1 bad.1;
  no_bad_names = λ bad. bad;
}
no_cause (job.Reissue plan names) s ready = record {
  no_bad_secret = λ bad. bad;
  no_bad_plan = λ error bad. plan_or_error plan.now error ready.0 bad;
  no_bad_cursor = λ bad. bad;
  no_bad_fingerprint = λ bad. bad;
  no_bad_names = λ bad. bad.1 ready.1.0 ready.1.1;
}
no_cause (job.Resplit plan file) s ready = record {
  no_bad_secret = λ bad. bad;
  no_bad_plan = λ error bad. plan_or_error plan.now error ready bad;
  no_bad_cursor = λ bad. bad;
  no_bad_fingerprint = λ bad. bad;
  no_bad_names = λ bad. bad;
}
no_cause job.Show s ready = record {
  no_bad_secret = λ bad. bad;
  no_bad_plan = λ error bad. bad;
  no_bad_cursor = λ bad. bad;
  no_bad_fingerprint = λ bad. bad;
  no_bad_names = λ bad. bad;
}
no_cause job.Status s ready = record {
  no_bad_secret = λ bad. bad;
  no_bad_plan = λ error bad. bad;
  no_bad_cursor = λ bad. bad;
  no_bad_fingerprint = λ bad. bad;
  no_bad_names = λ bad. bad;
}
no_cause job.Repair s ready = record {
  no_bad_secret = λ bad. bad;
  no_bad_plan = λ error bad. bad;
  no_bad_cursor = λ bad. bad;
  no_bad_fingerprint = λ bad. bad;
  no_bad_names = λ bad. bad;
}

-- what a work writes is what its job writes
pub output_of_job : (j : Job) (secret passphrase : Text) (w : Work) → IsWorkOf j secret passphrase w → (input : Input) (text : List ℕ)
    (answer : Result Bool Fault) → IsWorkOutput w input text answer → IsJobOutput j secret passphrase input text answer
output_of_job job.Show s p w is input text answer output = subst (λ (x : Work). IsWorkOutput x input text answer) is output
output_of_job (job.Create plan exponent extendable) s p w is input text answer output =
    let creation = is.0 in
    let written = subst (λ (x : Work). IsWorkOutput x input text answer) is.1 output in (
      written.0,
      record {
        secret = creation.secret.bytes.items;
        group_threshold = creation.plan.group_threshold;
        groups = creation.plan.groups.items;
        options = creation.options;
        read = is.2.read;
        given = is.2.given;
        output = subst (λ (given : List ℕ). IsCreateOutput (record {
          secret = creation.secret.bytes.items;
          passphrase = given;
          group_threshold = creation.plan.group_threshold;
          groups = creation.plan.groups.items;
          options = creation.options;
        }) input text written.0) is.2.passphrase_is written.1;
      },
      written.2,
    )
output_of_job (job.Recover form expected) s p w is input text answer output =
    let written = subst (λ (x : Work). IsWorkOutput x input text answer) is.2 output in
    (is.1, is.4, (written.0, subst (λ (given : List ℕ). IsRecoverOutput form is.1 given input text written.0) is.3 written.1, written.2))
output_of_job (job.Drill after limit form expected) s p w is input text answer output =
    let drill = is.0 in
    let written = subst (λ (x : Work). IsWorkOutput x input text answer) is.1 output in (
      drill.after,
      is.2.cursor,
      (
        is.2.noted,
        is.2.noted_is,
        (
          written.0,
          subst (λ (f : SecretForm). IsDrillOutput f p drill.after limit input text written.0) is.2.form_is
              (subst (λ (n : ℕ). IsDrillOutput drill.form p drill.after n input text written.0) is.2.limit_is
              (subst (λ (given : List ℕ). IsDrillOutput drill.form given drill.after drill.limit input text written.0) is.2.passphrase_is written.1)),
          written.2,
        ),
      ),
    )
output_of_job (job.Resplit plan file) s p w is input text answer output =
    let resplit = is.0 in
    let written = subst (λ (x : Work). IsWorkOutput x input text answer) is.1 output in (
      written.0,
      record {
        group_threshold = resplit.plan.group_threshold;
        groups = resplit.plan.groups.items;
        plan_is = is.2.plan_is;
        output = subst (λ (random : List ℕ). IsResplitOutput resplit.plan.group_threshold resplit.plan.groups.items random input text written.0)
            is.2.random_is written.1;
      },
      written.2,
    )
output_of_job job.Status s p w is input text answer output = subst (λ (x : Work). IsWorkOutput x input text answer) is output
output_of_job job.Repair s p w is input text answer output = subst (λ (x : Work). IsWorkOutput x input text answer) is output
output_of_job (job.Reissue plan names) s p w is input text answer output =
    let reissue = is.0 in
    let written = subst (λ (x : Work). IsWorkOutput x input text answer) is.1 output in (
      written.0,
      record {
        group_threshold = reissue.plan.group_threshold;
        groups = reissue.plan.groups.items;
        names = reissue.names;
        plan_is = is.2.plan_is;
        names_are = is.2.names_are;
        output = written.1;
      },
      written.2,
    )
