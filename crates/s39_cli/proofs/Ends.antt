-- How the program ends, from how its parts do.
use Rattle.std.proofs.Common.{◌≡◌, ◌⊎◌, ◌∙◌, ⊎_elim, ℕ, Bool, Bor, List, [], Option, Some, None, Err, string_bytes, take, true, true≢false, inl, inr, refl, subst, sym}
use Rattle.clap.specs.Words.{Text, fault_of, takes}
use Rattle.s39_command.specs.declared.command.BadValues.{BadValues}
use Rattle.s39_command.specs.declared.command.Call.{Call}
use Rattle.s39_backup.specs.declared.plan_error.PlanError.{PlanError}
use Rattle.s39_backup.specs.Plan.{IsPlanReading}
use Rattle.s39_command.specs.declared.command.Job.{Job}
use Rattle.s39_command.specs.declared.command.Job.TheVariants.{Resplit}
use Rattle.s39_command.specs.declared.command.NoJob.{NoJob}
use Rattle.s39_command.specs.declared.command.NoJob.TheVariants.{Help, Refused, Values, Memory}
use Rattle.s39_cli.specs.declared.runner.Ended.{Ended}
use Rattle.s39_cli.specs.declared.runner.Ended.TheVariants.{With, NoMemory}
use Rattle.s39_cli.specs.declared.work.Work.{Work}
use Rattle.s39_command.specs.Command.{AnswersWords, GivesCall, shamir_app}
use Rattle.s39_cli.specs.Ending.{Delivers, DoesDrawn, DoesJob, EndsAtOnce, IsDoneWith, Ends, EndsAs, EndsUnread, EndsWithoutJob, HasStatus, IsTyped, OnEnd, TakesCall}
use Rattle.s39_cli.specs.Values.{AreDrawn, HasSomeBad, LacksValue, TakesValues, Told, most_drawn, text_of}
use Rattle.s39_cli.specs.Outcome.{HasBadPlan}
use Rattle.s39_cli.specs.Work.{IsWorkOf, IsWorkOutput}
use Rattle.s39_cli.proofs.Deliveries.{Delivers-map}
use Rattle.s39_command.proofs.Jobs.{asks_none}
use Rattle.s39_cli.proofs.Works.{output_of_job, ready_of_work}

module _ {R W : Type 0} (remaining : R → Option (List ℕ)) (contents : W → Option (List ℕ)) (job : Job) (secret passphrase : Text) (reader : R)
    (writer : W) where
  pub does_work : (w : Work) (status : ℕ) (read_to : R) (written_to : W) (ended : Ended R W) → IsWorkOf job secret passphrase w
      → Delivers remaining contents (HasStatus (IsWorkOutput w)) reader writer status read_to written_to → ended ≡ With status read_to written_to
      → OnEnd ended (DoesJob remaining contents job secret passphrase reader writer)
  does_work w status read_to written_to ended is delivers same =
      subst (λ e. OnEnd e (DoesJob remaining contents job secret passphrase reader writer)) (sym same)
      (inr (inr (inr (inr (inr (
        ready_of_work job secret passphrase w is,
        Delivers-map remaining contents _ _ reader writer status read_to written_to delivers
            (λ input text full out. (out.0, output_of_job job secret passphrase w is input text out.0 out.1, out.2)),
      ))))))

-- some bytes are those that are drawn from a file
some_drawn : (known : Option (List ℕ)) → (random : List ℕ) × AreDrawn known random
some_drawn None = ([], tt)
some_drawn (Some bytes) = (take most_drawn bytes, refl)

module _ {R W : Type 0} (told : Told) (remaining : R → Option (List ℕ)) (contents : W → Option (List ℕ)) (job : Job) (secret passphrase : Text) (reader : R)
    (writer : W) where
  module _ (plan file : Bor Text) (is : job ≡ Resplit plan file) where
    -- a split anew whose plan is none
    pub bad_plan : (error : PlanError) (ended : Ended R W) → IsPlanReading plan.now (Err error) → OnEnd ended (EndsAtOnce 1 reader writer)
        → OnEnd ended (DoesDrawn told remaining contents job secret passphrase reader writer)
    bad_plan error NoMemory refused ends = tt
    bad_plan error (With status read_to written_to) refused ends =
        let (random, drawn) = some_drawn (told file.now) in
        inr (
          random,
          subst (λ (j : Job). IsDoneWith told j secret random) (sym is) drawn,
          inr (inl ((error, subst (λ (j : Job). HasBadPlan j random error) (sym is) refused), ends)),
        )

module _ {R W : Type 0} (told : Told) (remaining : R → Option (List ℕ)) (contents : W → Option (List ℕ)) (at_terminal : Bool) (words : List Text)
    (reader : R) (writer : W) where
  -- words that give no job
  pub ends_without_job : (no_job : NoJob) (ended : Ended R W) → AnswersWords no_job words
      → (takes shamir_app words ≡ true → (no_job ≡ Memory) ⊎ ((bad : BadValues) × (no_job ≡ Values bad)))
      → EndsWithoutJob contents no_job reader writer ended → Ends told remaining contents at_terminal words reader writer ended
  ends_without_job Memory ended answers wanting none = subst (Ends told remaining contents at_terminal words reader writer) (sym none) tt
  ends_without_job no_job NoMemory answers wanting ends = tt
  ends_without_job (Help text) (With status read_to written_to) answers wanting ends = record {
    asked = λ _. (string_bytes text, ends);
    refused = λ _ none. absurd (none answers);
    taken = λ taken. ⊎_elim (λ memory. cc) (λ values. cc) (wanting taken);
  }
  ends_without_job (Refused text) (With status read_to written_to) answers wanting ends = record {
    asked = λ asks. absurd (answers.1 asks);
    refused = λ _ _. ends;
    taken = λ taken. absurd (true≢false (sym taken ∙ answers.0));
  }
  ends_without_job (Values bad) (With status read_to written_to) answers wanting ends = record {
    asked = λ asks. absurd (answers.1 asks);
    refused = λ refused _. absurd (true≢false (sym answers.0 ∙ refused));
    taken = λ _. inl ((bad, answers.2), ends);
  }

  module _ (call : Call) (gives : GivesCall words call) (taken : takes shamir_app words ≡ true) (faultless : fault_of shamir_app words ≡ []) where
    pub ends_by_call : (status : ℕ) (read_to : R) (written_to : W) → TakesCall told remaining contents at_terminal call reader writer status read_to written_to
        → EndsAs told remaining contents at_terminal words reader writer status read_to written_to
    ends_by_call status read_to written_to does = record {
      asked = λ asks. absurd (asks_none words faultless asks);
      refused = λ refused _. absurd (true≢false (sym taken ∙ refused));
      taken = λ _. inr (call, gives, does);
    }

    pub ends_typed : (ended : Ended R W) → IsTyped at_terminal call.job → ended ≡ With 2 reader writer
        → Ends told remaining contents at_terminal words reader writer ended
    ends_typed ended typed same =
        subst (Ends told remaining contents at_terminal words reader writer) (sym same) (ends_by_call 2 reader writer (inl (typed, (refl, refl, refl))))

    pub ends_unread : (behind : R) (ended : Ended R W) (P : Type 0) → (IsTyped at_terminal call.job → ⊥) → LacksValue call.files reader behind
        → (P → HasSomeBad told remaining call.files reader) → EndsUnread P behind writer ended
        → Ends told remaining contents at_terminal words reader writer ended
    ends_unread behind NoMemory P untyped lacks bad ends = tt
    ends_unread behind (With status read_to written_to) P untyped lacks bad ends =
        ends_by_call status read_to written_to (inr (inl (
          untyped,
          (
            subst (LacksValue call.files reader) (sym ends.0) lacks,
            (⊎_elim (λ two. inl (two.0, bad two.1)) (λ three. inr three) ends.1.0, ends.1.1),
          ),
        )))

    pub ends_by_job : (secret passphrase : Option (List ℕ)) (s p : Text) (behind : R) (ended : Ended R W) → (IsTyped at_terminal call.job → ⊥)
        → TakesValues told remaining call.files secret passphrase reader behind → s ≡ text_of secret call.given.secret
        → p ≡ text_of passphrase call.given.passphrase → OnEnd ended (DoesDrawn told remaining contents call.job s p behind writer)
        → Ends told remaining contents at_terminal words reader writer ended
    ends_by_job secret passphrase s p behind NoMemory untyped takes same_s same_p does = tt
    ends_by_job secret passphrase s p behind (With status read_to written_to) untyped takes same_s same_p does =
        ends_by_call status read_to written_to (inr (inr (
          untyped,
          (
            secret,
            passphrase,
            behind,
            takes,
            subst (λ t. DoesDrawn told remaining contents call.job t (text_of passphrase call.given.passphrase) behind writer status read_to written_to)
                same_s (subst (λ t. DoesDrawn told remaining contents call.job s t behind writer status read_to written_to) same_p does),
          ),
        )))
