-- Which jobs have a text of another form than a plan.
use Rattle.std.proofs.Common.{◌≢◌, Err, refl}
use Rattle.clap.specs.Words.{Text}
use Rattle.s39_backup.specs.Plan.{IsPlanReading, PlanForm}
use Rattle.s39_backup.specs.declared.plan_error.PlanError.{PlanError}
use Rattle.s39_backup.specs.declared.plan_error.PlanError.TheVariants.{BadPlan, PlanGroups, PlanMembers, OneOfMany}
use Rattle.s39_command.specs.declared.command.Job.{Job}
use Rattle.s39_command.specs.declared.command.Job.TheVariants as job
use Rattle.s39_cli.specs.Outcome.{GivesPlan, HasBadCursor, HasBadFingerprint, HasBadNames, HasBadPlan, IsReady}
use Rattle.s39_cli.specs.Said.{HasFormlessPlan}

-- a text that gives a plan has the form of one
form_of_plan : (text : Text) → GivesPlan text → PlanForm text
form_of_plan text given = record { group_threshold = given.0; groups = given.1; form = given.2.0 }

-- so has a text that is refused for its numbers
form_of_refused : (text : Text) (error : PlanError) → IsPlanReading text (Err error) → error ≢ BadPlan → PlanForm text
form_of_refused text BadPlan is other = absurd (other refl)
form_of_refused text PlanGroups is other = is.0
form_of_refused text (PlanMembers group) is other = is.0
form_of_refused text (OneOfMany group) is other = is.0

pub formed_if_ready : (j : Job) (secret : Text) → IsReady j secret → HasFormlessPlan j → ⊥
formed_if_ready job.Show secret ready bad = bad
formed_if_ready (job.Create plan exponent extendable) secret ready bad = bad (form_of_plan plan.now ready.1)
formed_if_ready (job.Recover form expected) secret ready bad = bad
formed_if_ready (job.Drill after limit form expected) secret ready bad = bad
formed_if_ready job.Status secret ready bad = bad
formed_if_ready (job.Reissue plan names) secret ready bad = bad (form_of_plan plan.now ready.0)
formed_if_ready job.Repair secret ready bad = bad
formed_if_ready (job.Resplit plan file) secret ready bad = bad (form_of_plan plan.now ready)

pub formless_if_bad : (j : Job) (secret : Text) → HasBadPlan j secret BadPlan → HasFormlessPlan j
formless_if_bad job.Show secret bad = bad
formless_if_bad (job.Create plan exponent extendable) secret bad = bad.1
formless_if_bad (job.Recover form expected) secret bad = bad
formless_if_bad (job.Drill after limit form expected) secret bad = bad
formless_if_bad job.Status secret bad = bad
formless_if_bad (job.Reissue plan names) secret bad = bad
formless_if_bad job.Repair secret bad = bad
formless_if_bad (job.Resplit plan file) secret bad = bad

pub formed_if_other : (j : Job) (secret : Text) (error : PlanError) → HasBadPlan j secret error → error ≢ BadPlan → HasFormlessPlan j → ⊥
formed_if_other job.Show secret error bad other formless = formless
formed_if_other (job.Create plan exponent extendable) secret error bad other formless = formless (form_of_refused plan.now error bad.1 other)
formed_if_other (job.Recover form expected) secret error bad other formless = formless
formed_if_other (job.Drill after limit form expected) secret error bad other formless = formless
formed_if_other job.Status secret error bad other formless = formless
formed_if_other (job.Reissue plan names) secret error bad other formless = formless (form_of_refused plan.now error bad other)
formed_if_other job.Repair secret error bad other formless = formless
formed_if_other (job.Resplit plan file) secret error bad other formless = formless (form_of_refused plan.now error bad other)

pub formed_by_cursor : (j : Job) → HasBadCursor j → HasFormlessPlan j → ⊥
formed_by_cursor (job.Drill after limit form expected) bad formless = formless
formed_by_cursor _ bad formless = bad

pub formed_by_fingerprint : (j : Job) → HasBadFingerprint j → HasFormlessPlan j → ⊥
formed_by_fingerprint (job.Recover form expected) bad formless = formless
formed_by_fingerprint (job.Drill after limit form expected) bad formless = formless
formed_by_fingerprint _ bad formless = bad

pub formed_by_names : (j : Job) → HasBadNames j → HasFormlessPlan j → ⊥
formed_by_names (job.Reissue plan names) bad formless = formless (form_of_plan plan.now bad.0)
formed_by_names _ bad formless = bad
