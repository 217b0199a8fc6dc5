-- What jobs write for backups that were created.
use Rattle.std.proofs.Common.{◌≡◌, ◌∙◌, ℕ, Bool, List, Option, None, Result, Ok, Err, arith, ap, refl, subst, sym}
use Rattle.hex.specs.Hex.{decode_of}
use Rattle.clap.specs.Words.{Text}
use Rattle.s39_kdf.specs.declared.noted.NotedFingerprint.{NotedFingerprint}
use Rattle.s39_kdf.specs.declared.secret_form.SecretForm.{SecretForm}
use Rattle.s39_set.specs.Names.{Names}
use Rattle.s39_backup.specs.declared.plan.Members.{Members}
use Rattle.s39_backup.specs.Plan.{IsPlan}
use Rattle.s39_backup.specs.Created.{Asked}
use Rattle.s39_input.specs.declared.fault.Refusal.{Refusal}
use Rattle.s39_input.specs.declared.fault.Refusal.TheVariants.{Device}
use Rattle.s39_input.specs.declared.fault.Fault.{Fault}
use Rattle.s39_input.specs.Input.{Input, whole}
use Rattle.s39_input.specs.Create.{IsCreateOutput}
use Rattle.s39_creating.specs.Reissue.{IsReissueOutput, ReissuesCreated}
use Rattle.s39_creating.specs.Resplit.{IsResplitOutput, ResplitsCreated}
use Rattle.s39_drilling.specs.declared.drill.Done.{Done}
use Rattle.s39_drilling.specs.Drill.{DrillsCreated, IsDrillOutput}
use Rattle.s39_reading.specs.Recover.{IsRecoverOutput, RecoversCreated, secret_line}
use Rattle.s39_cli.specs.Headline.{CreatedJobsRecover, DrillJobsList, RecoverJobsRecover, ReissueJobsReissue, ResplitJobsResplit}
use Rattle.s39_cli.specs.Outcome.{CreatesFrom, judged, status_of, status_of_refusal, told_in, where_done}

pub drill_jobs_list : ((form : SecretForm) (passphrase : List ℕ) (after : Option Names) (limit : ℕ) (input : Input) (text : List ℕ)
    (answer : Result Done Fault) → IsDrillOutput form passphrase after limit input text answer
    → DrillsCreated form passphrase after limit input text answer) → DrillJobsList
drill_jobs_list created after expected limit form secret passphrase input text status
    (answer, (names, cursor, (noted, expects, (found, output, is))), ends) =
    (names, cursor, (noted, expects, (found, created (told_in form noted) passphrase names limit input text found output, ends ∙ ap status_of is)))

pub recover_jobs_recover : ((form : SecretForm) (expected : Option NotedFingerprint) (passphrase : List ℕ) (input : Input) (text : List ℕ)
    (answer : Result (Unit {0}) Fault) → IsRecoverOutput form expected passphrase input text answer
    → RecoversCreated form expected passphrase input text answer) → RecoverJobsRecover
recover_jobs_recover created form expected secret passphrase input text status (answer, (noted, expects, (plain, output, is)), ends) =
    (noted, expects, (plain, created form noted passphrase input text plain output, ends ∙ ap status_of is))

pub reissue_jobs_reissue : ((group_threshold : ℕ) (groups : List Members) (names : Names) (input : Input) (text : List ℕ)
    (answer : Result (Unit {0}) Fault) → IsReissueOutput group_threshold groups names input text answer
    → ReissuesCreated group_threshold groups names input text answer) → ReissueJobsReissue
reissue_jobs_reissue created plan names secret passphrase input text status (answer, (plain, by, is), ends) = (
  by.group_threshold,
  by.groups,
  by.plan_is,
  (
    by.names,
    by.names_are,
    (plain, created by.group_threshold by.groups by.names input text plain by.output, ends ∙ ap status_of is),
  ),
)

pub resplit_jobs_resplit : ((group_threshold : ℕ) (groups : List Members) (random : List ℕ) (input : Input) (text : List ℕ)
    (answer : Result (Unit {0}) Fault) → IsResplitOutput group_threshold groups random input text answer
    → ResplitsCreated group_threshold groups random input text answer) → ResplitJobsResplit
resplit_jobs_resplit created plan file random passphrase input text status (answer, (plain, by, is), ends) = (
  by.group_threshold,
  by.groups,
  by.plan_is,
  (plain, created by.group_threshold by.groups random input text plain by.output, ends ∙ ap status_of is),
)

-- ---- a creation, and a recovery of what it wrote

-- what is asked of a creation that is done
record IsDone (secret passphrase : Text) (random : Input) (text : List ℕ) : Type 0 where
  pub asked : Asked
  pub secret_is : decode_of secret ≡ Ok asked.secret
  pub passphrase_is : asked.passphrase ≡ passphrase
  pub plan_is : IsPlan asked.group_threshold asked.groups
  pub output : IsCreateOutput asked (whole random.bytes) text (Ok tt)

pub refusal_not_done : (r : Refusal) → 0 ≡ status_of_refusal r → ⊥
refusal_not_done (Device failure) is = omega arith
refusal_not_done _ is = omega arith

creation_done : (plan secret passphrase : Text) (e : ℕ) (x : Bool) (random : Input) (text : List ℕ) (plain : Result (Unit {0}) Fault)
    → CreatesFrom plan secret passphrase e x random text plain → 0 ≡ status_of (judged where_done plain) → IsDone secret passphrase random text
creation_done plan secret passphrase e x random text (Err fault) creates done = absurd (refusal_not_done fault.refusal done)
creation_done plan secret passphrase e x random text (Ok unit) creates done = record {
  asked = record {
    secret = creates.secret;
    passphrase = passphrase;
    group_threshold = creates.group_threshold;
    groups = creates.groups;
    options = creates.options;
  };
  secret_is = creates.read.secret_is;
  passphrase_is = refl;
  plan_is = creates.read.plan_is.1;
  output = (creates.output.0, refl, creates.output.2, creates.output.3);
}

pub created_jobs_recover : ((form : SecretForm) (asked : Asked) (random text : List ℕ) → IsPlan asked.group_threshold asked.groups
    → IsCreateOutput asked (whole random) text (Ok tt)
    → IsRecoverOutput form None asked.passphrase (whole text) (secret_line form asked.secret) (Ok tt))
    → ((form : SecretForm) (passphrase : List ℕ) (input : Input) (text other : List ℕ) (answer another : Result (Unit {0}) Fault)
    → IsRecoverOutput form None passphrase input text answer → IsRecoverOutput form None passphrase input other another
    → (text ≡ other) × (answer ≡ another)) → CreatedJobsRecover
created_jobs_recover written one plan e x form secret passphrase other random text output status (answer, (plain, creates, is), ends)
    (answered, (noted, expects, (found, recovers, same)), ended) =
    let done = creation_done plan.now secret passphrase e x random text plain creates (ends ∙ ap status_of is) in
    let right = subst (λ (t : Text). IsRecoverOutput form None t (whole text) (secret_line form done.asked.secret) (Ok tt)) done.passphrase_is
    (written form done.asked random.bytes text done.plan_is done.output) in
    let plainly = subst (λ (n : Option NotedFingerprint). IsRecoverOutput form n passphrase (whole text) output found) expects recovers in
    let both = one form passphrase (whole text) (secret_line form done.asked.secret) output (Ok tt) found right plainly in (
      done.asked.secret,
      done.secret_is,
      sym both.0,
      ended ∙ ap status_of same ∙ ap (λ (r : Result (Unit {0}) Fault). status_of (judged where_done r)) (sym both.1),
    )
