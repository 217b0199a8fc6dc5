-- Refusals that leave the writer as it was.
use Rattle.std.proofs.Common.{◌≡◌, ℕ, Bool, true, false, List, Option, ap, arith, inl, inr, refl, subst, sym, Result, Ok, Err}
use Rattle.clap.specs.Words.{Text}
use Rattle.s39_input.specs.declared.fault.Refusal.{Refusal}
use Rattle.s39_input.specs.declared.fault.Refusal.TheVariants.{Device}
use Rattle.s39_input.specs.declared.fault.Fault.{Fault}
use Rattle.s39_command.specs.declared.command.Call.{Call}
use Rattle.s39_command.specs.declared.command.Job.{Job}
use Rattle.s39_command.specs.declared.command.Job.TheVariants as job
use Rattle.s39_command.specs.declared.command.NoJob.{NoJob}
use Rattle.s39_command.specs.declared.command.NoJob.TheVariants.{Help, Refused, Values, Memory}
use Rattle.s39_command.specs.Command.{GivesCall, HaveSameValues}
use Rattle.s39_command.proofs.OneCall.{one_call}
use Rattle.s39_cli.specs.declared.runner.Ended.{Ended}
use Rattle.s39_cli.specs.declared.runner.Ended.TheVariants.{With, NoMemory}
use Rattle.s39_cli.specs.declared.work.Work.{Work}
use Rattle.s39_cli.specs.Ending.{EndsUnread, EndsWithoutJob, IsFlushed, OnEnd}
use Rattle.s39_cli.specs.Outcome.{status_of, status_of_refusal}
use Rattle.s39_cli.specs.Untouched.{IsAtItsEnd, IsUntouchedBy, IsUntouchedIfRefused, WritesAtItsEnd}
use Rattle.s39_cli.specs.Work.{IsWorkOf}

-- ---- exit statuses

-- no run ends with exit status 2
pub never_two : (answer : Result Bool Fault) → status_of answer ≡ 2 → ⊥
never_two (Ok true) two = omega (arith, two)
never_two (Ok false) two = omega (arith, two)
never_two (Err fault) two = of_refusal fault.refusal two
  where
    of_refusal : (refusal : Refusal) → status_of_refusal refusal ≡ 2 → ⊥
    of_refusal (Device failure) two = omega (arith, two)
    of_refusal _ two = omega (arith, two)

-- with exit status 1, an answer is the same behind a flush
pub same_if_one : (held last : Option (List ℕ)) (answer given : Result Bool Fault) → IsFlushed held last answer given → status_of given ≡ 1
    → given ≡ answer
same_if_one held last answer given (kept, inl same) one = same
same_if_one held last answer given (kept, inr failed) one = absurd (let three : status_of given ≡ 3 = ap status_of failed in omega (arith, one, three))

-- ---- jobs

-- a job with the same values is of the same kind
same_alike : (j other : Job) → HaveSameValues j other → WritesAtItsEnd j → WritesAtItsEnd other
same_alike job.Show other same at = absurd at
same_alike (job.Create plan e x) other same at = subst WritesAtItsEnd (sym same.1) tt
same_alike (job.Recover form expected) other same at = subst WritesAtItsEnd (sym same.1) tt
same_alike (job.Drill after limit form expected) other same at = absurd at
same_alike job.Status other same at = absurd at
same_alike (job.Reissue plan names) other same at = subst WritesAtItsEnd (sym same.2) tt
same_alike job.Repair other same at = absurd at
same_alike (job.Resplit plan file) other same at = subst WritesAtItsEnd (sym same.2) tt

-- so is its work
pub work_alike : (j : Job) (secret passphrase : Text) (w : Work) → IsWorkOf j secret passphrase w → WritesAtItsEnd j → IsAtItsEnd w
work_alike job.Show s p w is at = absurd at
work_alike (job.Create plan e x) s p w is at = subst IsAtItsEnd (sym is.1) tt
work_alike (job.Recover form expected) s p w is at = subst IsAtItsEnd (sym is.2) tt
work_alike (job.Drill after limit form expected) s p w is at = absurd at
work_alike job.Status s p w is at = absurd at
work_alike (job.Reissue plan names) s p w is at = subst IsAtItsEnd (sym is.1) tt
work_alike job.Repair s p w is at = absurd at
work_alike (job.Resplit plan file) s p w is at = subst IsAtItsEnd (sym is.1) tt

-- ---- how the program ends

module _ {R W : Type 0} (writer : W) where
  -- what is never written is untouched
  unwritten : (words : List Text) (ended : Ended R W) → OnEnd ended (λ status read_to written_to. written_to ≡ writer)
      → IsUntouchedIfRefused words ended writer
  unwritten words NoMemory same = tt
  unwritten words (With status read_to written_to) same = (λ two. same, λ call gives at one. same)

  pub typed_untouched : (reader : R) (words : List Text) (ended : Ended R W) → ended ≡ With 2 reader writer → IsUntouchedIfRefused words ended writer
  typed_untouched reader words ended is =
      subst (λ e. IsUntouchedIfRefused words e writer) (sym is) (unwritten words (With 2 reader writer) refl)

  pub unread_untouched : (is_bad : Type 0) (reader : R) (words : List Text) (ended : Ended R W) → EndsUnread is_bad reader writer ended
      → IsUntouchedIfRefused words ended writer
  unread_untouched is_bad reader words NoMemory ends = tt
  unread_untouched is_bad reader words (With status read_to written_to) ends = unwritten words (With status read_to written_to) ends.1.1

  pub jobless_untouched : (contents : W → Option (List ℕ)) (reader : R) (no_job : NoJob) (words : List Text) (ended : Ended R W)
      → EndsWithoutJob contents no_job reader writer ended → IsUntouchedIfRefused words ended writer
  jobless_untouched contents reader Memory words ended none = subst (λ e. IsUntouchedIfRefused words e writer) (sym none) tt
  jobless_untouched contents reader (Help text) words NoMemory ends = tt
  jobless_untouched contents reader (Help text) words (With status read_to written_to) (same, inl (none, out)) =
      (λ two. absurd (omega (arith, none, two)), λ call gives at one. absurd (omega (arith, none, one)))
  jobless_untouched contents reader (Help text) words (With status read_to written_to) (same, inr (three, out)) =
      (λ two. absurd (omega (arith, three, two)), λ call gives at one. absurd (omega (arith, three, one)))
  jobless_untouched contents reader (Refused text) words NoMemory ends = tt
  jobless_untouched contents reader (Refused text) words (With status read_to written_to) ends =
      unwritten words (With status read_to written_to) ends.2
  jobless_untouched contents reader (Values bad) words NoMemory ends = tt
  jobless_untouched contents reader (Values bad) words (With status read_to written_to) ends =
      unwritten words (With status read_to written_to) ends.2

  -- a job that is run
  pub run_untouched : (j : Job) (answer : Result Bool Fault) (read_to : R) (written_to : W) (ended : Ended R W)
      → ended ≡ With (status_of answer) read_to written_to → (WritesAtItsEnd j → status_of answer ≡ 1 → written_to ≡ writer)
      → IsUntouchedBy j ended writer
  run_untouched j answer read_to written_to ended is untouched =
      subst (λ e. IsUntouchedBy j e writer) (sym is) (λ two. absurd (never_two answer two), untouched)

  -- a call of whose job this is known
  pub job_untouched : (words : List Text) (call : Call) → GivesCall words call → (ended : Ended R W) → IsUntouchedBy call.job ended writer
      → IsUntouchedIfRefused words ended writer
  job_untouched words call gives NoMemory untouched = tt
  job_untouched words call gives (With status read_to written_to) untouched =
      (untouched.0, λ other given at one. untouched.1 (same_alike other.job call.job (one_call words other call given gives).values at) one)
