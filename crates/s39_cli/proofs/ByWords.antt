-- What the program gives by any words whose values stand in them, from how it ends.
use Rattle.std.proofs.Common.{◌≡◌, ◌≢◌, ◌⊎◌, ◌∙◌, ℕ, Bool, suc, Bor, List, [], Option, Some, None, ap, arith, inl, inr, refl, subst, sym, true}
use Rattle.std.specs.Io.KnownBytes.{Appends}
use Rattle.clap.specs.Words.{Text, takes}
use Rattle.s39_input.specs.Input.{Input, whole}
use Rattle.s39_command.specs.declared.command.BadValues.{BadValues}
use Rattle.s39_command.specs.declared.command.Call.{Call}
use Rattle.s39_command.specs.declared.command.Job.{Job}
use Rattle.s39_command.specs.declared.command.Job.TheVariants as job
use Rattle.s39_command.specs.declared.command.Texts.{Texts}
use Rattle.s39_command.specs.Command.{AreSameCalls, AreSameTexts, GivesBadValues, GivesCall, shamir_app, text_in}
use Rattle.s39_command.specs.Jobs.{GivesJob, or_empty}
use Rattle.s39_command.proofs.Faults.{one_fault}
use Rattle.s39_command.proofs.OneCall.{one_call}
use Rattle.s39_cli.specs.declared.runner.Ended.{Ended}
use Rattle.s39_cli.specs.declared.runner.Ended.TheVariants.{With, NoMemory}
use Rattle.s39_cli.specs.Ending.{AreAllOf, AwaitsRandom, Delivers, DeliversDrawn, DoesDrawn, Ends, EndsAs, EndsAtOnce, IsDoneWith, IsOutcome, IsTyped, OnEnd, TakesCall}
use Rattle.s39_cli.specs.Outcome.{HasNoCause, IsReady}
use Rattle.s39_cli.specs.Values.{Told, text_of}
use Rattle.s39_cli.proofs.Deliveries.{Delivers-map}
use Rattle.s39_cli.proofs.SameValues.{same_await, same_done, same_ready, same_typed, same_values_write_the_same}
use Rattle.s39_cli.proofs.Works.{no_cause}

-- ---- calls without files

abbrev no_files : Texts
no_files = record { secret = None; passphrase = None }

abbrev call_of : Job → Texts → Call
call_of j given = record { job = j; given = given; files = no_files }

none_named : (file : Option (Bor Text)) → text_in file ≡ None → file ≡ None
none_named None same = refl
none_named (Some name) same = cc

none_in_files : (files : Texts) → AreSameTexts files no_files → files ≡ no_files
none_in_files files same =
    let s = none_named files.secret same.secret in
    let p = none_named files.passphrase same.passphrase in
    (λ i. record { secret = s i; passphrase = p i })

pub not_zero : (s m : ℕ) → s ≡ 0 → s ≡ suc m → ⊥
not_zero s m none some = omega arith

-- what a job writes whose values stand in the words
abbrev pub Writes : Job → Texts → Input → List ℕ → ℕ → Type 0
Writes j given = IsOutcome j (text_of None given.secret) (text_of None given.passphrase)

-- ---- the call that words give is the named one, except for how its texts are lent

module _ (words : List Text) (named : Job) (given : Texts) (gives : GivesJob words named given) (j : Job) (g : Texts) (has : GivesJob words j g) where
  there : AreSameCalls (call_of named given) (call_of j g)
  there = one_call words (call_of named given) (call_of j g) gives has

  back : AreSameCalls (call_of j g) (call_of named given)
  back = one_call words (call_of j g) (call_of named given) has gives

  ready_too : IsReady named (text_of None given.secret) → IsReady j (text_of None g.secret)
  ready_too ready = subst (IsReady j) (ap or_empty there.given.secret) (same_ready named j there.values (text_of None given.secret) ready)

  untyped_too : (at_terminal : Bool) → (IsTyped at_terminal named → ⊥) → IsTyped at_terminal j → ⊥
  untyped_too at_terminal untyped typed = untyped (same_typed at_terminal j named back.values typed)

  awaits_too : AwaitsRandom j → AwaitsRandom named
  awaits_too = same_await j named back.values

  done_too : (told : Told) (x : Text) → IsDoneWith told j (text_of None g.secret) x → IsDoneWith told named (text_of None given.secret) x
  done_too told x is = subst (λ (s : Text). IsDoneWith told named s x) (ap or_empty back.given.secret)
      (same_done told j named (text_of None g.secret) x back.values is)

  written_too : (x : Text) (input : Input) (text : List ℕ) (status : ℕ) → IsOutcome j x (text_of None g.passphrase) input text status
      → IsOutcome named x (text_of None given.passphrase) input text status
  written_too x input text status writes =
      subst (λ (p : Text). IsOutcome named x p input text status) (ap or_empty back.given.passphrase)
      (same_values_write_the_same j named back.values x (text_of None g.passphrase) input text status writes)

-- what a job can be begun with, it can be begun with what it is done with
ready_with : (told : Told) (j : Job) (s x : Text) → IsDoneWith told j s x → IsReady j s → IsReady j x
ready_with told (job.Resplit plan file) s x is ready = ready
ready_with told (job.Create plan e f) s x is ready = subst (IsReady (job.Create plan e f)) (sym is) ready
ready_with told job.Show s x is ready = ready
ready_with told (job.Recover f e) s x is ready = ready
ready_with told (job.Drill a l f e) s x is ready = ready
ready_with told job.Status s x is ready = ready
ready_with told (job.Reissue t n) s x is ready = ready
ready_with told job.Repair s x is ready = ready

-- a job that takes no random bytes from a file
pub record IsPlain (told : Told) (named : Job) (given : Texts) : Type 0 where
  pub awaits_none : AwaitsRandom named → ⊥
  pub done_with : (x : Text) → IsDoneWith told named (text_of None given.secret) x → x ≡ text_of None given.secret

module _ {R W : Type 0} (told : Told) (remaining : R → Option (List ℕ)) (contents : W → Option (List ℕ)) (at_terminal : Bool) (words : List Text) (reader : R)
    (writer : W) where
  -- a creation whose random bytes would be typed is refused, or else the job is done
  abbrev TakesJob : Job → Texts → ℕ → R → W → Type 0
  TakesJob j given status read_to written_to = (IsTyped at_terminal j × EndsAtOnce 2 reader writer status read_to written_to)
      ⊎ ((IsTyped at_terminal j → ⊥)
      × DoesDrawn told remaining contents j (text_of None given.secret) (text_of None given.passphrase) reader writer status read_to written_to)

  takes_job : (j : Job) (given : Texts) (status : ℕ) (read_to : R) (written_to : W)
      → TakesCall told remaining contents at_terminal (call_of j given) reader writer status read_to written_to
      → TakesJob j given status read_to written_to
  takes_job j given status read_to written_to (inl typed) = inl typed
  takes_job j given status read_to written_to (inr (inl lacks)) = absurd (lacks.1.0.0 (refl, refl))
  takes_job j given status read_to written_to (inr (inr (untyped, (secret, passphrase, behind, (between, first, second), does)))) = inr (
    untyped,
    subst (λ s. DoesDrawn told remaining contents j (text_of s given.secret) (text_of None given.passphrase) reader writer status read_to written_to)
        first.0
        (subst (λ p. DoesDrawn told remaining contents j (text_of secret given.secret) (text_of p given.passphrase) reader writer status read_to
        written_to) second.0
        (subst (λ r. DoesDrawn told remaining contents j (text_of secret given.secret) (text_of passphrase given.passphrase) r writer status read_to
        written_to) (second.1 ∙ first.1) does)),
  )

  module _ (named : Job) (given : Texts) (gives : GivesJob words named given) (taken : takes shamir_app words ≡ true) (status : ℕ) (read_to : R)
      (written_to : W) (ends : EndsAs told remaining contents at_terminal words reader writer status read_to written_to) where
    -- the job that is done, which is the named one except for how its texts are lent
    job_of : (j : Job) × (g : Texts) × GivesJob words j g × TakesJob j g status read_to written_to
    job_of = go (ends.taken taken)
      where
        of_call : (j : Job) (g files : Texts) → files ≡ no_files → GivesCall words (record { job = j; given = g; files = files })
            → TakesCall told remaining contents at_terminal (record { job = j; given = g; files = files }) reader writer status read_to written_to
            → (k : Job) × (h : Texts) × GivesJob words k h × TakesJob k h status read_to written_to
        of_call j g files none has does = (
          j,
          g,
          subst (λ f. GivesCall words (record { job = j; given = g; files = f })) none has,
          takes_job j g status read_to written_to
              (subst (λ f. TakesCall told remaining contents at_terminal (record { job = j; given = g; files = f }) reader writer status read_to written_to)
              none does),
        )

        go : (((bad : BadValues) × GivesBadValues words bad) × EndsAtOnce 2 reader writer status read_to written_to)
            ⊎ ((call : Call) × GivesCall words call × TakesCall told remaining contents at_terminal call reader writer status read_to written_to)
            → (k : Job) × (h : Texts) × GivesJob words k h × TakesJob k h status read_to written_to
        go (inl bad) = absurd (one_fault.no_call words bad.0.0 (call_of named given) bad.0.1 gives)
        go (inr (call, has, does)) =
            of_call call.job call.given call.files (none_in_files call.files (one_call words call (call_of named given) has gives).files) has does

    -- the output of the named job goes out, or its file isn't read
    abbrev Drawn : Type 0
    Drawn = DeliversDrawn told remaining contents named (text_of None given.secret) (text_of None given.passphrase) reader writer status read_to written_to

    delivered : (j : Job) (g : Texts) → GivesJob words j g → (x : Text) → IsDoneWith told j (text_of None g.secret) x
        → Delivers remaining contents (IsOutcome j x (text_of None g.passphrase)) reader writer status read_to written_to → Drawn
    delivered j g has x is delivers = inr (
      x,
      done_too words named given gives j g has told x is,
      Delivers-map remaining contents (IsOutcome j x (text_of None g.passphrase)) (IsOutcome named x (text_of None given.passphrase)) reader writer status
          read_to written_to delivers (λ input text full writes. written_too words named given gives j g has x input text full writes),
    )

    failed : (j : Job) (g : Texts) → GivesJob words j g → AwaitsRandom j → EndsAtOnce 3 reader writer status read_to written_to → Drawn
    failed j g has awaits ends = inl (awaits_too words named given gives j g has awaits, ends)

    -- a job that can be begun
    ready : IsReady named (text_of None given.secret) → (IsTyped at_terminal named → ⊥) → Drawn
    ready is_ready is_untyped = go job_of.0 job_of.1 job_of.2 job_of.3
      where
        causeless : (j : Job) (g : Texts) → GivesJob words j g → (x : Text) → IsDoneWith told j (text_of None g.secret) x → HasNoCause j x
        causeless j g has x is =
            no_cause j x (ready_with told j (text_of None g.secret) x is (ready_too words named given gives j g has is_ready))

        go : (j : Job) (g : Texts) → GivesJob words j g → TakesJob j g status read_to written_to → Drawn
        go j g has (inl typed) = absurd (untyped_too words named given gives j g has at_terminal is_untyped typed.0)
        go j g has (inr (untyped, inl unread)) = failed j g has unread.0 unread.1
        go j g has (inr (untyped, inr (x, is, inl bad))) = absurd ((causeless j g has x is).no_bad_secret bad.0)
        go j g has (inr (untyped, inr (x, is, inr (inl bad)))) = absurd ((causeless j g has x is).no_bad_plan bad.0.0 bad.0.1)
        go j g has (inr (untyped, inr (x, is, inr (inr (inl bad))))) = absurd ((causeless j g has x is).no_bad_cursor bad.0)
        go j g has (inr (untyped, inr (x, is, inr (inr (inr (inl bad)))))) = absurd ((causeless j g has x is).no_bad_fingerprint bad.0)
        go j g has (inr (untyped, inr (x, is, inr (inr (inr (inr (inl bad))))))) = absurd ((causeless j g has x is).no_bad_names bad.0)
        go j g has (inr (untyped, inr (x, is, inr (inr (inr (inr (inr does))))))) = delivered j g has x is does.1

    -- a job that is done
    pub done : status ≡ 0 → Drawn
    done none = go job_of.0 job_of.1 job_of.2 job_of.3
      where
        go : (j : Job) (g : Texts) → GivesJob words j g → TakesJob j g status read_to written_to → Drawn
        go j g has (inl typed) = absurd (not_zero status 1 none typed.1.0)
        go j g has (inr (untyped, inl unread)) = absurd (not_zero status 2 none unread.1.0)
        go j g has (inr (untyped, inr (x, is, inl bad))) = absurd (not_zero status 1 none bad.1.0)
        go j g has (inr (untyped, inr (x, is, inr (inl bad)))) = absurd (not_zero status 0 none bad.1.0)
        go j g has (inr (untyped, inr (x, is, inr (inr (inl bad))))) = absurd (not_zero status 0 none bad.1.0)
        go j g has (inr (untyped, inr (x, is, inr (inr (inr (inl bad)))))) = absurd (not_zero status 0 none bad.1.0)
        go j g has (inr (untyped, inr (x, is, inr (inr (inr (inr (inl bad))))))) = absurd (not_zero status 0 none bad.1.0)
        go j g has (inr (untyped, inr (x, is, inr (inr (inr (inr (inr does))))))) = delivered j g has x is does.1

  -- what words write that give a job which can be begun
  pub run : (named : Job) (given : Texts) → takes shamir_app words ≡ true → GivesJob words named given → IsReady named (text_of None given.secret)
      → (IsTyped at_terminal named → ⊥) → (ended : Ended R W) → Ends told remaining contents at_terminal words reader writer ended
      → OnEnd ended (DeliversDrawn told remaining contents named (text_of None given.secret) (text_of None given.passphrase) reader writer)
  run named given taken gives is_ready untyped NoMemory ends = tt
  run named given taken gives is_ready untyped (With status read_to written_to) ends =
      ready named given gives taken status read_to written_to ends is_ready untyped

  plainly : (named : Job) (given : Texts) → IsPlain told named given → (status : ℕ) (read_to : R) (written_to : W)
      → DeliversDrawn told remaining contents named (text_of None given.secret) (text_of None given.passphrase) reader writer status read_to written_to
      → Delivers remaining contents (Writes named given) reader writer status read_to written_to
  plainly named given plain status read_to written_to (inl unread) = absurd (plain.awaits_none unread.0)
  plainly named given plain status read_to written_to (inr (x, is, delivers)) =
      subst (λ (t : Text). Delivers remaining contents (IsOutcome named t (text_of None given.passphrase)) reader writer status read_to written_to)
      (plain.done_with x is) delivers

  pub done_plainly : (named : Job) (given : Texts) → IsPlain told named given → GivesJob words named given → takes shamir_app words ≡ true → (status : ℕ)
      (read_to : R) (written_to : W) → EndsAs told remaining contents at_terminal words reader writer status read_to written_to → status ≡ 0
      → Delivers remaining contents (Writes named given) reader writer status read_to written_to
  done_plainly named given plain gives taken status read_to written_to ends none =
      plainly named given plain status read_to written_to (done named given gives taken status read_to written_to ends none)

  pub run_plainly : (named : Job) (given : Texts) → IsPlain told named given → takes shamir_app words ≡ true → GivesJob words named given
      → IsReady named (text_of None given.secret) → (IsTyped at_terminal named → ⊥) → (ended : Ended R W)
      → Ends told remaining contents at_terminal words reader writer ended
      → OnEnd ended (Delivers remaining contents (Writes named given) reader writer)
  run_plainly named given plain taken gives is_ready untyped NoMemory ends = tt
  run_plainly named given plain taken gives is_ready untyped (With status read_to written_to) ends =
      plainly named given plain status read_to written_to (ready named given gives taken status read_to written_to ends is_ready untyped)

-- a creation that is done, and what is known of the outcome of another job, whose input is what the creation wrote
pub created_then : {R V W : Type 0} (told : Told) (remaining : R → Option (List ℕ)) (held : V → Option (List ℕ)) (contents : W → Option (List ℕ))
    (at_terminal : Bool) (words : List Text) (creation : Job) (given : Texts) (Other : Input → List ℕ → ℕ → Type 0) (random random_left : R) (empty filled : V) (output : W)
    (status : ℕ) (text : List ℕ) (Known : List ℕ → ℕ → Type 0)
    → ((bytes line : List ℕ) (number : ℕ) → Writes creation given (whole bytes) text 0 → Other (whole text) line number → Known line number)
    → IsPlain told creation given → takes shamir_app words ≡ true → GivesJob words creation given
    → EndsAs told remaining held at_terminal words random empty status random_left filled
    → status ≡ 0 → held empty ≡ Some [] → held filled ≡ Some text → (ended : Ended V W)
    → OnEnd ended (Delivers held contents Other filled output)
    → OnEnd ended (λ number read_to written_to. number ≢ 3
    → (line : List ℕ) × Known line number × Appends (contents output) (contents written_to) line)
created_then told remaining held contents at_terminal words creation given Other random random_left empty filled output status text Known known plain
    taken gives created none
    is_empty is_filled NoMemory delivers = tt
created_then told remaining held contents at_terminal words creation given Other random random_left empty filled output status text Known known plain
    taken gives created none
    is_empty is_filled (With number read_to written_to) delivers = λ no_device. (
    let done_is = subst (λ (n : ℕ). EndsAs told remaining held at_terminal words random empty n random_left filled) none created in
    let wrote = (done_plainly told remaining held at_terminal words random empty creation given plain gives taken 0 random_left filled done_is refl).done
    (λ three. not_zero 0 2 refl three) in
    let same : Appends (Some []) (Some text) wrote.2.0 = subst (λ (a : Option (List ℕ)). Appends a (Some text) wrote.2.0) is_empty
    (subst (λ (b : Option (List ℕ)). Appends (held empty) b wrote.2.0) is_filled wrote.2.2) in
    let got = delivers.done no_device in
    let bytes : got.0 ≡ text = subst (λ (l : Option (List ℕ)). AreAllOf l got.0) is_filled got.1 in
    let reads = subst (λ (t : List ℕ). Other (whole t) got.2.0 number) bytes got.2.1 in
    let writes = subst (λ (t : List ℕ). Writes creation given (whole wrote.0) t 0) (sym same) wrote.2.1 in
    (got.2.0, known wrote.0 got.2.0 number writes reads, got.2.2))
