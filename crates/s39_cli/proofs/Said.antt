-- What is said on standard error, from what the parts say.
use Rattle.std.proofs.Common.{◌≡◌, ◌⊎◌, ◌≤◌, ◌∙◌, ◌++◌, ◌&&◌, ℕ, All, Bool, Bor, true, false, List, [], ◌∷◌, Option, Some, None, Result, Ok, Err, ap, append-nil, arith, inl, inr, refl, subst, sym, true≢false}
use Rattle.std.proofs.KnownBytes.{Appends-nil, Appends-trans}
use Rattle.clap.specs.Words.{Text}
use Rattle.s39_kdf.specs.Limits.{IsPrintable}
use Rattle.s39_backup.specs.declared.plan_error.PlanError.{PlanError}
use Rattle.s39_backup.specs.declared.plan_error.PlanError.TheVariants.{BadPlan, PlanGroups, PlanMembers, OneOfMany}
use Rattle.s39_words.specs.declared.ShareFields.{ShareFields}
use Rattle.s39_input.specs.declared.fault.Refusal.{Refusal}
use Rattle.s39_input.specs.declared.fault.Refusal.TheVariants.{Device}
use Rattle.s39_input.specs.declared.fault.Fault.{Fault}
use Rattle.s39_input.specs.Accepted.{IsCheckedSet}
use Rattle.s39_input.specs.Input.{Input, whole}
use Rattle.s39_input.specs.Steps.{Then, gives, refuses, nothing_for}
use Rattle.s39_input.proofs.Sets.Checked.{printable_of_checked}
use Rattle.s39_command.specs.declared.command.Job.{Job}
use Rattle.s39_command.specs.declared.command.Job.TheVariants as job
use Rattle.s39_cli.specs.declared.person.Person.{Person}
use Rattle.s39_cli.specs.declared.person.Terminals.{Terminals}
use Rattle.s39_cli.specs.declared.values.BadValue.{BadValue}
use Rattle.s39_cli.specs.declared.runner.Ended.{Ended}
use Rattle.s39_cli.specs.declared.runner.Ended.TheVariants.{With, NoMemory}
use Rattle.s39_cli.specs.declared.work.NoWork.{NoWork}
use Rattle.s39_cli.specs.declared.work.NoWork.TheVariants as no_work
use Rattle.s39_cli.specs.declared.work.Work.{Work}
use Rattle.s39_cli.specs.declared.work.Work.TheVariants as work
use Rattle.s39_reading.specs.Recover.{WritesSecret}
use Rattle.s39_drilling.specs.Drill.{WritesDrillOf}
use Rattle.s39_cli.specs.Ending.{Delivers, HasStatus, OnEnd}
use Rattle.s39_cli.specs.Outcome.{HasBadPlan, IsReady, judged, status_of, status_of_refusal, where_done, without_mismatches}
use Rattle.s39_cli.specs.Said.{AreDrillLines, AreLateLines, AreSomeLines, AreSomeWorkLines, AreWorkLines, HasFormlessPlan, IsAllOf, IsSaidBy, IsSaidOfJob}
use Rattle.s39_cli.specs.Said.{IsSaidUnbegun, IsSaidUnread, IsWithin, OnStatus, Says, SaysAnswer, SaysInRun, SaysMessage}
use Rattle.s39_cli.specs.NoWork.{IsNoWork}
use Rattle.s39_cli.specs.Said.{bare_line, file_line, is_attended, line_if, none_line, tells_last, types_mnemonics, typing_line}
use Rattle.s39_cli.specs.Work.{HasBadPassphrase, IsWorkOf, IsWorkOutput}
use Rattle.s39_cli.proofs.Works.{ready_of_work}
use Rattle.s39_cli.proofs.Formless.{formed_by_cursor, formed_by_fingerprint, formed_by_names, formed_if_other, formed_if_ready, formless_if_bad}

-- ---- exit statuses

-- no refusal ends with exit status 0
pub refusal_some : (refusal : Refusal) → status_of_refusal refusal ≡ 0 → ⊥
refusal_some (Device failure) none = omega (arith, none)
refusal_some _ none = omega (arith, none)

-- no run ends with exit status 2
refusal_two : (refusal : Refusal) → status_of_refusal refusal ≡ 2 → ⊥
refusal_two (Device failure) two = omega (arith, two)
refusal_two _ two = omega (arith, two)

-- ---- what is done with exit status 0 has a printable passphrase

written_printable : {T : Type 0} (passphrase : List ℕ) (input : Input) (Next : List ShareFields → List ℕ × Result T Fault → Type 0) (text : List ℕ) (t : T)
    → Then (IsCheckedSet passphrase input) nothing_for Next (text, Ok t) → All IsPrintable passphrase
written_printable passphrase input Next text t (gives set checked next) = printable_of_checked passphrase input set checked
written_printable {T} passphrase input Next text t (refuses fault checked same) =
    let bad = ap (λ (w : List ℕ × Result T Fault). w.1) same in absurd (cc)

sound_if_done : {T : Type 0} (is_well : T → Bool) (passphrase : List ℕ) (input : Input) (Next : List ShareFields → List ℕ × Result T Fault → Type 0)
    (text : List ℕ) (found : Result T Fault) (answer : Result Bool Fault) → Then (IsCheckedSet passphrase input) nothing_for Next (text, found)
    → answer ≡ judged is_well found → status_of answer ≡ 0 → ¬ All IsPrintable passphrase → ⊥
sound_if_done is_well passphrase input Next text (Ok t) answer output same none bad = bad (written_printable passphrase input Next text t output)
sound_if_done is_well passphrase input Next text (Err fault) answer output same none bad =
    refusal_some fault.refusal (sym (ap status_of same) ∙ none)

work_sound : (w : Work) (input : Input) (text : List ℕ) (answer : Result Bool Fault) → IsWorkOutput w input text answer → status_of answer ≡ 0
    → HasBadPassphrase w → ⊥
work_sound work.Show input text answer output none bad = bad
work_sound (work.Create creation) input text answer output none bad = bad
work_sound (work.Recover passphrase form expected) input text answer output none bad =
    sound_if_done where_done passphrase.now input (WritesSecret form expected passphrase.now) text output.0 answer output.1 output.2 none bad
work_sound (work.Drill drill) input text answer output none bad =
    sound_if_done without_mismatches drill.passphrase.now input (WritesDrillOf drill.form drill.passphrase.now drill.after drill.limit) text output.0 answer
    output.1 output.2 none bad
work_sound work.Status input text answer output none bad = bad
work_sound (work.Reissue reissue) input text answer output none bad = bad
work_sound work.Repair input text answer output none bad = bad
work_sound (work.Resplit resplit) input text answer output none bad = bad

-- ---- the lines

-- what is said of a work that says nothing itself
plain_lines : (terminals : Terminals) (bare tells : Bool) (text : Text) → text ≡ [] → tells ≡ (is_attended terminals && bare)
    → text ++ line_if tells bare_line ≡ [] ++ none_line terminals bare
plain_lines terminals bare tells text none same =
    ap (λ (t : Text). t ++ line_if tells bare_line) none ∙ ap (λ (b : Bool). line_if b bare_line) same

-- what a work says itself, and then what is left to its caller, is what is said for its job
late_of_work : (j : Job) (secret passphrase : Text) (w : Work) (terminals : Terminals) (bare tells : Bool) (input : Input) (text : Text)
    → IsWorkOf j secret passphrase w → tells ≡ tells_last w (is_attended terminals && bare) → AreWorkLines terminals bare w input text
    → AreLateLines terminals bare j input (text ++ line_if tells bare_line)
late_of_work job.Show s p w terminals bare tells input text is last are = (
  [],
  refl,
  plain_lines terminals bare tells text
      (subst (λ (x : Work). AreWorkLines terminals bare x input text) is are) (last ∙ ap (λ (x : Work). tells_last x (is_attended terminals && bare)) is),
)
late_of_work (job.Create plan e x) s p w terminals bare tells input text is last are = (
  [],
  refl,
  plain_lines terminals bare tells text
      (subst (λ (x : Work). AreWorkLines terminals bare x input text) is.1 are) (last ∙ ap (λ (x : Work). tells_last x (is_attended terminals && bare)) is.1),
)
late_of_work (job.Recover form expected) s p w terminals bare tells input text is last are =
    let none : tells ≡ false = last ∙ ap (λ (x : Work). tells_last x (is_attended terminals && bare)) is.2 in (
      [],
      refl,
      ap (λ (b : Bool). text ++ line_if b bare_line) none ∙ append-nil text
          ∙ subst (λ (x : Work). AreWorkLines terminals bare x input text) is.2 are,
    )
late_of_work (job.Drill after limit form expected) s p w terminals bare tells input text (drill, is, of) last are =
    let lines = subst (λ (x : Work). AreWorkLines terminals bare x input text) is are in (
      text,
      (drill.after, of.cursor, subst (λ (n : ℕ). AreDrillLines terminals drill.after n input text) of.limit_is lines),
      ap (λ (b : Bool). text ++ line_if b bare_line) (last ∙ ap (λ (x : Work). tells_last x (is_attended terminals && bare)) is),
    )
late_of_work job.Status s p w terminals bare tells input text is last are = (
  [],
  refl,
  plain_lines terminals bare tells text
      (subst (λ (x : Work). AreWorkLines terminals bare x input text) is are) (last ∙ ap (λ (x : Work). tells_last x (is_attended terminals && bare)) is),
)
late_of_work (job.Reissue plan names) s p w terminals bare tells input text is last are = (
  [],
  refl,
  plain_lines terminals bare tells text
      (subst (λ (x : Work). AreWorkLines terminals bare x input text) is.1 are) (last ∙ ap (λ (x : Work). tells_last x (is_attended terminals && bare)) is.1),
)
late_of_work job.Repair s p w terminals bare tells input text is last are = (
  [],
  refl,
  plain_lines terminals bare tells text
      (subst (λ (x : Work). AreWorkLines terminals bare x input text) is are) (last ∙ ap (λ (x : Work). tells_last x (is_attended terminals && bare)) is),
)
late_of_work (job.Resplit plan file) s p w terminals bare tells input text is last are = (
  [],
  refl,
  plain_lines terminals bare tells text
      (subst (λ (x : Work). AreWorkLines terminals bare x input text) is.1 are) (last ∙ ap (λ (x : Work). tells_last x (is_attended terminals && bare)) is.1),
)

-- the same of what a work says before a device fails
some_of_job : (j : Job) (secret passphrase : Text) (w : Work) (terminals : Terminals) (bare : Bool) (text : Text) → IsWorkOf j secret passphrase w
    → AreSomeWorkLines terminals bare w text → AreSomeLines terminals bare j text
some_of_job job.Show s p w terminals bare text is are = subst (λ (x : Work). AreSomeWorkLines terminals bare x text) is are
some_of_job (job.Create plan e x) s p w terminals bare text is are = subst (λ (x : Work). AreSomeWorkLines terminals bare x text) is.1 are
some_of_job (job.Recover form expected) s p w terminals bare text is are = subst (λ (x : Work). AreSomeWorkLines terminals bare x text) is.2 are
some_of_job (job.Drill after limit form expected) s p w terminals bare text is are = subst (λ (x : Work). AreSomeWorkLines terminals bare x text) is.1 are
some_of_job job.Status s p w terminals bare text is are = subst (λ (x : Work). AreSomeWorkLines terminals bare x text) is are
some_of_job (job.Reissue plan names) s p w terminals bare text is are = subst (λ (x : Work). AreSomeWorkLines terminals bare x text) is.1 are
some_of_job job.Repair s p w terminals bare text is are = subst (λ (x : Work). AreSomeWorkLines terminals bare x text) is are
some_of_job (job.Resplit plan file) s p w terminals bare text is are = subst (λ (x : Work). AreSomeWorkLines terminals bare x text) is.1 are

-- nothing is some of what is said for a job
pub no_lines : (terminals : Terminals) (bare : Bool) (j : Job) → AreSomeLines terminals bare j []
no_lines terminals bare job.Show = refl
no_lines terminals bare (job.Create plan e x) = refl
no_lines terminals bare (job.Recover form expected) = inl refl
no_lines terminals bare (job.Drill after limit form expected) = inl refl
no_lines terminals bare job.Status = refl
no_lines terminals bare (job.Reissue plan names) = refl
no_lines terminals bare job.Repair = refl
no_lines terminals bare (job.Resplit plan file) = refl

-- only at a terminal a passphrase is typed

-- ---- texts one after another

empty_first : (first second : Text) → first ++ second ≡ [] → first ≡ []
empty_first [] second none = refl
empty_first (byte ∷ rest) second none = absurd (cc)

empty_second : (first second : Text) → first ++ second ≡ [] → second ≡ []
empty_second [] second none = none
empty_second (byte ∷ rest) second none = absurd (cc)

module _ {E : Type 0} (contents : E → Option (List ℕ)) where
  pub nothing_said : (old : Person E) → Says contents old old []
  nothing_said old = record { same_terminals = refl; taken = λ is. (is, Appends-nil (contents old.device)); silent = λ _. (refl, refl) }

  pub says_both : (a b c : Person E) (first second : Text) → Says contents a b first → Says contents b c second → Says contents a c (first ++ second)
  says_both a b c first second one other = record {
    same_terminals = other.same_terminals ∙ one.same_terminals;
    taken = λ whole.
        let more = other.taken whole in
        let before = one.taken more.0 in
        (before.0, Appends-trans (contents a.device) (contents b.device) (contents c.device) first second before.1 more.1);
    silent = λ none.
        let f = one.silent (empty_first first second none) in
        let s = other.silent (empty_second first second none) in (s.0 ∙ f.0, s.1 ∙ f.1);
  }

  -- ---- a job

  module _ {R : Type 0} (remaining : R → Option (List ℕ)) where
    module _ (j : Job) (secret passphrase : Text) (terminals : Terminals) (bare types asks tells : Bool) (w : Work) (reader : R)
        (old mid late new : Person E) (is : IsWorkOf j secret passphrase w) (types_is : types ≡ types_mnemonics terminals.input j)
        (asked : (asks ≡ types) ⊎ ((asks ≡ false) × HasBadPassphrase w)) (last : tells ≡ tells_last w (is_attended terminals && bare))
        (first : Says contents old mid (line_if asks typing_line)) where
      ready : IsReady j secret
      ready = ready_of_work j secret passphrase w is

      within : IsWithin asks (types_mnemonics terminals.input j)
      within comes = elim asked [ inl same ↦ sym types_is ∙ sym same ∙ comes | inr bad ↦ absurd (true≢false (sym comes ∙ bad.0)) ]

      asks_all : (HasBadPassphrase w → ⊥) → asks ≡ types_mnemonics terminals.input j
      asks_all sound = elim asked [ inl same ↦ same ∙ types_is | inr bad ↦ absurd (sound bad.1) ]

      -- what is said beside an answer without a fault
      beside : (is_well : Bool) → SaysInRun remaining contents terminals bare w reader (Ok is_well) mid late → Says contents late new (line_if tells bare_line)
          → (input : Input) × IsAllOf (remaining reader) input
          × ((text : Text) × AreLateLines terminals bare j input text × Says contents mid new text)
      beside is_well (input, all, (text, are, says)) then = (
        input,
        all,
        (
          text ++ line_if tells bare_line,
          late_of_work j secret passphrase w terminals bare tells input text is last are,
          says_both mid late new text (line_if tells bare_line) says then,
        ),
      )

      -- a run that gave this answer
      pub said_by_run : (answer : Result Bool Fault)
          → (status_of answer ≡ 0 → (input : Input) × (text : List ℕ) × HasStatus (IsWorkOutput w) input text (status_of answer))
          → SaysInRun remaining contents terminals bare w reader answer mid late → SaysAnswer contents tells answer late new
          → IsSaidBy remaining contents terminals bare j reader old new (status_of answer)
      said_by_run (Ok true) output run then = record {
        done = λ none.
            let (input, all, (text, are, says)) = beside true run then in
            let out = output none in
            let sound = work_sound w out.0 out.1 out.2.0 out.2.1 (sym out.2.2) in (
              input,
              all,
              (
                text,
                are,
                subst (λ (b : Bool). Says contents old new (line_if b typing_line ++ text)) (asks_all sound)
                    (says_both old mid new (line_if asks typing_line) text first says),
              ),
            );
        refused = λ one. absurd (omega (arith, one));
        formless = λ one. absurd (omega (arith, one));
        wrong = λ two. absurd (omega (arith, two));
        failed = λ three. absurd (omega (arith, three));
      }
      said_by_run (Ok false) output run then = record {
        done = λ none. absurd (omega (arith, none));
        refused = λ one formed.
            let (input, all, (text, are, says)) = beside false run then in (
              asks,
              text,
              within,
              inr (input, all, are),
              (λ comes. (secret, ready)),
              says_both old mid new (line_if asks typing_line) text first says,
            );
        formless = λ one formless. absurd (formed_if_ready j secret ready formless);
        wrong = λ two. absurd (omega (arith, two));
        failed = λ three. absurd (omega (arith, three));
      }
      said_by_run (Err fault) output (same, (early, are, says)) (message, short, then) = record {
        done = λ none. absurd (refusal_some fault.refusal none);
        refused = λ one formed. (
          asks,
          message,
          within,
          inl short,
          (λ comes. (secret, ready)),
          says_both old mid new (line_if asks typing_line) message first (subst (λ (p : Person E). Says contents p new message) (same one) then),
        );
        formless = λ one formless. absurd (formed_if_ready j secret ready formless);
        wrong = λ two. absurd (refusal_two fault.refusal two);
        failed = λ three. (
          asks,
          early,
          message,
          within,
          some_of_job j secret passphrase w terminals bare early is are,
          inl short,
          says_both old mid new (line_if asks typing_line) (early ++ message) first (says_both mid late new early message says then),
        );
      }

      -- a run whose devices are known
      pub said_by_work : {W : Type 0} (held : W → Option (List ℕ)) (answer : Result Bool Fault) (read_to : R) (writer written_to : W) (ended : Ended R W)
          → Delivers remaining held (HasStatus (IsWorkOutput w)) reader writer (status_of answer) read_to written_to
          → SaysInRun remaining contents terminals bare w reader answer mid late → SaysAnswer contents tells answer late new
          → ended ≡ With (status_of answer) read_to written_to → IsSaidOfJob remaining contents terminals bare j reader old new ended
      said_by_work held answer read_to writer written_to ended delivers run then same =
          subst (IsSaidOfJob remaining contents terminals bare j reader old new) (sym same) (said_by_run answer output run then)
        where
          output : status_of answer ≡ 0 → (input : Input) × (text : List ℕ) × HasStatus (IsWorkOutput w) input text (status_of answer)
          output none = let done = delivers.done (λ three. omega (arith, none, three)) in (whole done.0, done.2.0, done.2.1)

    module _ (terminals : Terminals) (bare : Bool) (j : Job) (reader : R) (old new : Person E) where
      -- a job that isn't begun
      refused_unbegun : {W : Type 0} (ended : Ended R W) → (HasFormlessPlan j → ⊥) → OnStatus ended (λ status. (status ≡ 1) × SaysMessage contents old new)
          → IsSaidOfJob remaining contents terminals bare j reader old new ended
      refused_unbegun NoMemory formed says = absurd says
      refused_unbegun (With status read_to written_to) formed (is, (text, short, says)) = record {
        done = λ none. absurd (omega (arith, none, is));
        refused = λ one _.
            (false, text, (λ comes. absurd (true≢false (sym comes))), inl short, (λ comes. absurd (true≢false (sym comes))), says);
        formless = λ one formless. absurd (formed formless);
        wrong = λ two. absurd (omega (arith, two, is));
        failed = λ three. absurd (omega (arith, three, is));
      }

      -- a job whose text of a plan gives none
      pub said_of_plan : {W : Type 0} (secret : Text) (error : PlanError) (ended : Ended R W) → HasBadPlan j secret error
          → IsSaidUnbegun contents (is_attended terminals) (no_work.Plan error) old new ended
          → IsSaidOfJob remaining contents terminals bare j reader old new ended
      said_of_plan secret error NoMemory bad says = absurd says
      said_of_plan secret BadPlan (With status read_to written_to) bad (is, formless, other) = record {
        done = λ none. absurd (omega (arith, none, is));
        refused = λ one formed. absurd (formed (formless_if_bad j secret bad));
        formless = λ one _. formless refl;
        wrong = λ two. absurd (omega (arith, two, is));
        failed = λ three. absurd (omega (arith, three, is));
      }
      said_of_plan secret PlanGroups (With status read_to written_to) bad (is, formless, other) =
          refused_unbegun (With status read_to written_to) (formed_if_other j secret PlanGroups bad (λ same. cc same)) (is, other (λ same. cc same))
      said_of_plan secret (PlanMembers group) (With status read_to written_to) bad (is, formless, other) =
          refused_unbegun (With status read_to written_to) (formed_if_other j secret (PlanMembers group) bad (λ same. cc same)) (is, other (λ same. cc same))
      said_of_plan secret (OneOfMany group) (With status read_to written_to) bad (is, formless, other) =
          refused_unbegun (With status read_to written_to) (formed_if_other j secret (OneOfMany group) bad (λ same. cc same)) (is, other (λ same. cc same))

      pub said_unbegun : {W : Type 0} (secret : Text) (u : NoWork) (ended : Ended R W) → IsNoWork j secret u
          → IsSaidUnbegun contents (is_attended terminals) u old new ended → IsSaidOfJob remaining contents terminals bare j reader old new ended
      said_unbegun secret no_work.Memory ended bad (none, says) =
          subst (IsSaidOfJob remaining contents terminals bare j reader old new) (sym none) says
      said_unbegun secret no_work.Secret NoMemory bad says = absurd says
      said_unbegun secret no_work.Secret (With status read_to written_to) bad (is, says) = record {
        done = λ none. absurd (omega (arith, none, is));
        refused = λ one. absurd (omega (arith, one, is));
        formless = λ one. absurd (omega (arith, one, is));
        wrong = λ _. says;
        failed = λ three. absurd (omega (arith, three, is));
      }
      said_unbegun secret (no_work.Plan error) ended bad says = said_of_plan secret error ended bad says
      said_unbegun secret (no_work.Cursor cursor) ended bad says = refused_unbegun ended (formed_by_cursor j bad) says
      said_unbegun secret (no_work.Fingerprint fingerprint) ended bad says = refused_unbegun ended (formed_by_fingerprint j bad) says
      said_unbegun secret (no_work.Names names) ended bad says = refused_unbegun ended (formed_by_names j bad) says

      -- a job whose file of random bytes isn't read
      pub said_undrawn : {W : Type 0} (IsCause : BadValue → Type 0) (name : Text) (ended : Ended R W)
          → OnEnd ended (λ status read_to written_to. status ≡ 3) → IsSaidUnread contents IsCause name old new ended → OnStatus ended (λ status. 2 ≤ status)
          → IsSaidOfJob remaining contents terminals bare j reader old new ended
      said_undrawn IsCause name NoMemory is says some = absurd some
      said_undrawn IsCause name (With status read_to written_to) is (refused, (reason, says)) some = record {
        done = λ none. absurd (omega (arith, none, is));
        refused = λ one. absurd (omega (arith, one, is));
        formless = λ one. absurd (omega (arith, one, is));
        wrong = λ two. absurd (omega (arith, two, is));
        failed = λ _. (
          false,
          [],
          file_line name reason,
          (λ comes. absurd (true≢false (sym comes))),
          no_lines terminals bare j,
          inr (name, reason, refl),
          says,
        );
      }
