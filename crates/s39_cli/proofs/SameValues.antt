-- Jobs with the same values write the same, and can be begun alike.
use Rattle.std.proofs.Common.{◌≡◌, ◌∙◌, ℕ, Bool, Bor, List, IfSome, Option, Some, None, Result, subst, sym}
use Rattle.clap.specs.Words.{Text}
use Rattle.s39_set.specs.Names.{Names}
use Rattle.s39_set.specs.Written.{IsWrittenForm}
use Rattle.s39_input.specs.declared.fault.Fault.{Fault}
use Rattle.s39_input.specs.Input.{Input}
use Rattle.s39_command.specs.declared.command.Job.{Job}
use Rattle.s39_command.specs.declared.command.Job.TheVariants as job
use Rattle.s39_command.specs.Command.{HaveSameValues, text_in}
use Rattle.s39_command.proofs.OneCall.{said_same}
use Rattle.s39_cli.specs.Ending.{AwaitsRandom, IsDoneWith, IsTyped}
use Rattle.s39_cli.specs.Headline.{SameValuesWriteTheSame}
use Rattle.s39_cli.specs.Values.{AreDrawn, Told}
use Rattle.s39_cli.specs.Outcome.{CreatesFrom, GivesPlan, IsCursor, IsJobOutput, IsNoted, IsReady, Reissues, Resplits, WritesFingerprint, WritesNames}

same_cursor : (a b : Option (Bor Text)) → text_in a ≡ text_in b → (names : Option Names) → IsCursor a names → IsCursor b names
same_cursor None None same names is = is
same_cursor None (Some b) same names is = cc same
same_cursor (Some a) None same names is = cc same
same_cursor (Some a) (Some b) same names is = (is.0, is.1, subst (λ (t : Text). IsWrittenForm t is.0) (said_same same) is.2)

-- a job with the same values writes the same
same_output : (j k : Job) → HaveSameValues j k → (secret passphrase : Text) (input : Input) (text : List ℕ) (answer : Result Bool Fault)
    → IsJobOutput j secret passphrase input text answer → IsJobOutput k secret passphrase input text answer
same_output job.Show k same s w input text answer is = subst (λ (other : Job). IsJobOutput other s w input text answer) (sym same) is
same_output (job.Create t e x) k (t', same, plans) s w input text answer is =
    subst (λ (other : Job). IsJobOutput other s w input text answer) (sym same)
    (is.0, subst (λ (p : Text). CreatesFrom p s w e x input text is.0) plans is.1, is.2)
same_output (job.Recover f e) k (e', same, noted) s w input text answer is =
    subst (λ (other : Job). IsJobOutput other s w input text answer) (sym same)
    (is.0, subst (λ (t : Option Text). IsNoted t is.0) noted is.1, is.2)
same_output (job.Drill a l f e) k (a', e', same, cursors, noted) s w input text answer is =
    subst (λ (other : Job). IsJobOutput other s w input text answer) (sym same)
    (is.0, same_cursor a a' cursors is.0 is.1, (is.2.0, subst (λ (t : Option Text). IsNoted t is.2.0) noted is.2.1, is.2.2))
same_output job.Status k same s w input text answer is = subst (λ (other : Job). IsJobOutput other s w input text answer) (sym same) is
same_output (job.Reissue t n) k (t', n', same, plans, names) s w input text answer is =
    subst (λ (other : Job). IsJobOutput other s w input text answer) (sym same) (
      is.0,
      subst (λ (l : Text). Reissues t'.now l input text is.0) names (subst (λ (p : Text). Reissues p n.now input text is.0) plans is.1),
      is.2,
    )
same_output job.Repair k same s w input text answer is = subst (λ (other : Job). IsJobOutput other s w input text answer) (sym same) is
same_output (job.Resplit t f) k (t', f', same, plans, files) s w input text answer is =
    subst (λ (other : Job). IsJobOutput other s w input text answer) (sym same)
    (is.0, subst (λ (p : Text). Resplits p s input text is.0) plans is.1, is.2)

pub same_values_write_the_same : SameValuesWriteTheSame
same_values_write_the_same j k same s w input text status is = (is.0, same_output j k same s w input text is.0 is.1, is.2)

-- ---- and can be begun alike

pub same_ready : (j k : Job) → HaveSameValues j k → (secret : Text) → IsReady j secret → IsReady k secret
same_ready job.Show k same s is = subst (λ (other : Job). IsReady other s) (sym same) is
same_ready (job.Create t e x) k (t', same, plans) s is =
    subst (λ (other : Job). IsReady other s) (sym same) (is.0, subst GivesPlan plans is.1)
same_ready (job.Recover f e) k (e', same, noted) s is =
    subst (λ (other : Job). IsReady other s) (sym same) (subst (λ (t : Option Text). IfSome t WritesFingerprint) noted is)
same_ready (job.Drill a l f e) k (a', e', same, cursors, noted) s is =
    subst (λ (other : Job). IsReady other s) (sym same)
    (subst (λ (t : Option Text). IfSome t WritesNames) cursors is.0, subst (λ (t : Option Text). IfSome t WritesFingerprint) noted is.1)
same_ready job.Status k same s is = subst (λ (other : Job). IsReady other s) (sym same) is
same_ready (job.Reissue t n) k (t', n', same, plans, names) s is =
    subst (λ (other : Job). IsReady other s) (sym same) (subst GivesPlan plans is.0, subst WritesNames names is.1)
same_ready job.Repair k same s is = subst (λ (other : Job). IsReady other s) (sym same) is
same_ready (job.Resplit t f) k (t', f', same, plans, files) s is =
    subst (λ (other : Job). IsReady other s) (sym same) (subst GivesPlan plans is)

pub same_typed : (at_terminal : Bool) (j k : Job) → HaveSameValues j k → IsTyped at_terminal j → IsTyped at_terminal k
same_typed at_terminal (job.Create t e x) k (t', same, plans) is = subst (IsTyped at_terminal) (sym same) is
same_typed at_terminal (job.Resplit t f) k (t', f', same, plans, files) is = subst (IsTyped at_terminal) (sym same) (sym files ∙ is)
same_typed at_terminal j k same is = absurd is

pub same_await : (j k : Job) → HaveSameValues j k → AwaitsRandom j → AwaitsRandom k
same_await (job.Resplit t f) k (t', f', same, plans, files) is = subst AwaitsRandom (sym same) (subst GivesPlan plans is)
same_await _ k same is = absurd is

pub same_done : (told : Told) (j k : Job) (secret given : Text) → HaveSameValues j k → IsDoneWith told j secret given → IsDoneWith told k secret given
same_done told job.Show k s g same is = subst (λ (other : Job). IsDoneWith told other s g) (sym same) is
same_done told (job.Create t e x) k s g (t', same, plans) is = subst (λ (other : Job). IsDoneWith told other s g) (sym same) is
same_done told (job.Recover f e) k s g (e', same, noted) is = subst (λ (other : Job). IsDoneWith told other s g) (sym same) is
same_done told (job.Drill a l f e) k s g (a', e', same, cursors, noted) is = subst (λ (other : Job). IsDoneWith told other s g) (sym same) is
same_done told job.Status k s g same is = subst (λ (other : Job). IsDoneWith told other s g) (sym same) is
same_done told (job.Reissue t n) k s g (t', n', same, plans, names) is = subst (λ (other : Job). IsDoneWith told other s g) (sym same) is
same_done told job.Repair k s g same is = subst (λ (other : Job). IsDoneWith told other s g) (sym same) is
same_done told (job.Resplit t f) k s g (t', f', same, plans, files) is =
    subst (λ (other : Job). IsDoneWith told other s g) (sym same) (subst (λ (name : Text). AreDrawn (told name) g) files is)
