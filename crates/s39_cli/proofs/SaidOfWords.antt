-- What is said on standard error by the whole program.
use Rattle.std.proofs.Common.{◌≡◌, ◌⊎◌, ◌≤◌, ◌∙◌, ◌++◌, ◌&&◌, ⊎_elim, ℕ, Bool, Bor, true, false, List, [], Option, Some, None, ap, arith, bytes_eq, cond, inl, inr, refl, subst, sym, true≢false}
use Rattle.clap.specs.Words.{Text, fault_of, takes}
use Rattle.s39_input.specs.Input.{Input}
use Rattle.s39_command.specs.declared.command.BadValues.{BadValues}
use Rattle.s39_command.specs.declared.command.Call.{Call}
use Rattle.s39_command.specs.declared.command.Job.{Job}
use Rattle.s39_command.specs.declared.command.Job.TheVariants as job
use Rattle.s39_command.specs.declared.command.NoJob.{NoJob}
use Rattle.s39_command.specs.declared.command.Texts.{Texts}
use Rattle.s39_command.specs.declared.command.NoJob.TheVariants.{Help, Refused, Values, Memory}
use Rattle.s39_command.specs.Command.{AnswersWords, GivesCall, shamir_app}
use Rattle.s39_command.proofs.Jobs.{asks_none}
use Rattle.s39_cli.specs.declared.person.Person.{Person}
use Rattle.s39_cli.specs.declared.person.Terminals.{Terminals}
use Rattle.s39_cli.specs.declared.runner.Ended.{Ended}
use Rattle.s39_cli.specs.declared.runner.Ended.TheVariants.{With, NoMemory}
use Rattle.s39_cli.specs.Ending.{IsTyped, status_in}
use Rattle.s39_cli.specs.Said.{AreInputLines, AreLines, IsNamedIn, IsSaid, IsSaidAs, IsSaidOfCall, IsSaidOfJob, IsSaidUnread, IsSaidWithoutJob, OnStatus, Says}
use Rattle.s39_cli.specs.Said.{asking_lines, bad_line, file_line, is_attended, is_bare, line_if, memory_line, passphrase_asked_line, secret_asked_line, secret_line, typed_line, types_mnemonics, types_value, typing_line}
use Rattle.s39_cli.specs.declared.values.BadValue.{BadValue}
use Rattle.s39_cli.specs.Values.{HasBad, TakesValues, Told, input_name, terminal_name}
use Rattle.s39_cli.proofs.Said.{no_lines, says_both}

-- ---- the program

module _ {R E : Type 0} (told : Told) (remaining : R → Option (List ℕ)) (contents : E → Option (List ℕ)) (terminals : Terminals)
    (words : List Text) (reader : R) (old new : Person E) where
  by_call : (call : Call) → GivesCall words call → takes shamir_app words ≡ true → fault_of shamir_app words ≡ [] → (status : ℕ)
      → IsSaidOfCall told remaining contents terminals call reader old new status
      → IsSaidAs told remaining contents terminals words reader old new status
  by_call call found taken faultless status says = record {
    asked = λ asks. absurd (asks_none words faultless asks);
    untaken = λ untaken. absurd (true≢false (sym taken ∙ untaken));
    taken = λ _. inr (call, found, says);
  }

  -- for want of memory, before anything else is said
  only_memory : {W : Type 0} (ended : Ended R W) → ended ≡ NoMemory → Says contents old new memory_line
      → IsSaid told remaining contents terminals words reader old new ended
  only_memory ended none says =
      subst (IsSaid told remaining contents terminals words reader old new) (sym none) (record { secret = None; passphrase = None }, says)

  -- words that give no job
  pub said_without_job : {W : Type 0} (no_job : NoJob) (ended : Ended R W) → AnswersWords no_job words
      → (takes shamir_app words ≡ true → (no_job ≡ Memory) ⊎ ((bad : BadValues) × (no_job ≡ Values bad)))
      → IsSaidWithoutJob contents (is_attended terminals) no_job old new ended
      → IsSaid told remaining contents terminals words reader old new ended
  said_without_job Memory ended answers wanting (none, says) = only_memory ended none says
  said_without_job (Help text) NoMemory answers wanting says = absurd says
  said_without_job (Refused text) NoMemory answers wanting says = absurd says
  said_without_job (Values bad) NoMemory answers wanting says = absurd says
  said_without_job (Help text) (With status read_to written_to) answers wanting says = record {
    asked = λ _ none. says none;
    untaken = λ _ none. says none;
    taken = λ taken. ⊎_elim (λ memory. cc) (λ values. cc) (wanting taken);
  }
  said_without_job (Refused text) (With status read_to written_to) answers wanting says = record {
    asked = λ asks. absurd (answers.1 asks);
    untaken = λ _ none. absurd (let two = says.0 in omega (arith, two, none));
    taken = λ taken. absurd (true≢false (sym taken ∙ answers.0));
  }
  said_without_job (Values bad) (With status read_to written_to) answers wanting says = record {
    asked = λ asks. absurd (answers.1 asks);
    untaken = λ _ none. absurd (let two = says.0 in omega (arith, two, none));
    taken = λ _. inl (bad, answers.2, says.0, says.1);
  }

  module _ (call : Call) (found : GivesCall words call) (taken : takes shamir_app words ≡ true)
      (faultless : fault_of shamir_app words ≡ []) where
    pub said_typed : {W : Type 0} (ended : Ended R W) (read_to : R) (writer : W) → IsTyped terminals.input call.job → ended ≡ With 2 read_to writer
        → Says contents old new typed_line → IsSaid told remaining contents terminals words reader old new ended
    said_typed ended read_to writer typed same says =
        subst (IsSaid told remaining contents terminals words reader old new) (sym same) (by_call call found taken faultless 2 (record {
          done = λ none. absurd (omega (arith, none));
          typed = λ _. says;
          refused = λ one. absurd (omega (arith, one));
          formless = λ one. absurd (omega (arith, one));
          wrong = λ _. inl typed;
          failed = λ three. absurd (omega (arith, three));
        }))

    -- values that are typed are asked for first, and then it is kept whether the command is bare
    module _ (untyped : IsTyped terminals.input call.job → ⊥) (bare : Bool) (mid told_person : Person E)
        (first : Says contents old mid (asking_lines terminals call.files))
        (kept : told_person ≡ record mid { is_bare = bare }) where
      -- what is said then follows it
      then : (text : Text) → Says contents told_person new text
          → Says contents old new (asking_lines terminals call.files ++ text)
      then text says =
          let s = subst (λ (p : Person E). Says contents p new text) kept says in
          says_both contents old mid new (asking_lines terminals call.files) text first
          (record { same_terminals = s.same_terminals; taken = s.taken; silent = s.silent })

      pub said_unread : {W : Type 0} (IsCause : BadValue → Type 0) → ((bad : BadValue) → IsCause bad → HasBad told remaining bad call.files reader)
          → (name : Text) (ended : Ended R W) → OnStatus ended (λ status. 2 ≤ status) → IsNamedIn call.files name
          → IsSaidUnread contents IsCause name told_person new ended → IsSaid told remaining contents terminals words reader old new ended
      said_unread IsCause has name NoMemory other named says = absurd other
      said_unread IsCause has name (With status read_to written_to) other named (refused, (reason, says)) =
          by_call call found taken faultless status (record {
            done = λ none. absurd (omega (arith, none, other));
            typed = λ typed. absurd (untyped typed);
            refused = λ one. absurd (omega (arith, one, other));
            formless = λ one. absurd (omega (arith, one, other));
            wrong = λ two.
                let (bad, caused, line) = refused two in
                inr (bad_line name bad, inr (name, bad, named, has bad caused, refl), then (bad_line name bad) line);
            failed = λ _. (
              false,
              [],
              file_line name reason,
              (λ comes. absurd (true≢false (sym comes))),
              no_lines terminals (is_bare call) call.job,
              inr (name, reason, refl),
              then (file_line name reason) says,
            );
          })

      pub said_of_job : {W : Type 0} (secret passphrase : Option (List ℕ)) (behind : R) (ended : Ended R W) → bare ≡ is_bare call
          → told_person.terminals ≡ terminals → TakesValues told remaining call.files secret passphrase reader behind
          → IsSaidOfJob remaining contents told_person.terminals told_person.is_bare call.job behind told_person new ended
          → IsSaid told remaining contents terminals words reader old new ended
      said_of_job secret passphrase behind ended bare_is here takes says = by_ending ended
          (subst (λ (b : Bool). IsSaidOfJob remaining contents terminals b call.job behind told_person new ended)
          (ap (λ (p : Person E). p.is_bare) kept ∙ bare_is)
          (subst (λ (t : Terminals). IsSaidOfJob remaining contents t told_person.is_bare call.job behind told_person new ended) here says))
        where
          by_ending : {W : Type 0} (ended : Ended R W) → IsSaidOfJob remaining contents terminals (is_bare call) call.job behind told_person new ended
              → IsSaid told remaining contents terminals words reader old new ended
          by_ending NoMemory says = (call.files, then memory_line says)
          by_ending (With status read_to written_to) says = by_call call found taken faultless status (record {
            done = λ none.
                let (input, all, (late, are, is)) = says.done none in
                (input, (secret, passphrase, behind, takes, all), (_, (late, are, refl), then _ is));
            typed = λ typed. absurd (untyped typed);
            refused = λ one formed.
                let (begun, text, within, short, ready, is) = says.refused one formed in (
                  begun,
                  text,
                  within,
                  ⊎_elim (λ few. inl few) (λ lines. inr (lines.0, (secret, passphrase, behind, takes, lines.1), lines.2)) short,
                  ready,
                  then _ is,
                );
            formless = λ one formless. (let (text, short, is) = says.formless one formless in (text, short, then _ is));
            wrong = λ two. inr (secret_line, inl refl, then secret_line (says.wrong two));
            failed = λ three.
                let (begun, early, message, within, are, short, is) = says.failed three in
                (begun, early, message, within, are, short, then _ is);
          })

-- ---- nobody

abbrev pub nobody : Terminals
nobody = record { input = false; output = false; errors = false }

asks_for_none : (file : Option (Bor Text)) → types_value nobody file ≡ false
asks_for_none (Some file) = by_name (bytes_eq file.now input_name) (bytes_eq file.now terminal_name)
  where
    by_name : (is_input is_terminal : Bool) → cond is_input false (is_terminal && false) ≡ false
    by_name true is_terminal = refl
    by_name false true = refl
    by_name false false = refl
asks_for_none None = refl

no_values_asked_for : (files : Texts) → asking_lines nobody files ≡ []
no_values_asked_for files =
    ap (λ (b : Bool). line_if b secret_asked_line ++ line_if (types_value nobody files.passphrase) passphrase_asked_line) (asks_for_none files.secret)
    ∙ ap (λ (b : Bool). line_if b passphrase_asked_line) (asks_for_none files.passphrase)

no_mnemonics_typed : (j : Job) → types_mnemonics false j ≡ false
no_mnemonics_typed (job.Create plan e x) = refl
no_mnemonics_typed j = refl

no_input_lines : (j : Job) (input : Input) (text : Text) → AreInputLines nobody j input text → text ≡ []
no_input_lines (job.Drill after limit form expected) input text (cursor, is, are) = are.text_is
no_input_lines j input text are = are

-- nobody is told anything with exit status 0
no_lines_at_none : (call : Call) (input : Input) (text : Text) → AreLines nobody call input text → text ≡ []
no_lines_at_none call input text (late, (lines, are, late_is), is) =
    is ∙ ap (λ (asked : Text). asked ++ (line_if (types_mnemonics false call.job) typing_line ++ late)) (no_values_asked_for call.files)
    ∙ ap (λ (b : Bool). line_if b typing_line ++ late) (no_mnemonics_typed call.job)
    ∙ late_is ∙ ap (λ (l : Text). l ++ []) (no_input_lines call.job input lines are)

module _ {R E : Type 0} (told : Told) (remaining : R → Option (List ℕ)) (contents : E → Option (List ℕ)) (words : List Text) (reader : R)
    (old new : Person E) where
  by_taken : (status : ℕ) → IsSaidAs told remaining contents nobody words reader old new status → status ≡ 0 → (taken : Bool)
      → takes shamir_app words ≡ taken → (new.device ≡ old.device) × (new.is_whole ≡ old.is_whole)
  by_taken status says none false is = (says.untaken is none).silent refl
  by_taken status says none true is = elim (says.taken is) [
    | inl (bad, gives, two, said) ↦ absurd (omega (arith, two, none))
    | inr (call, found, said) ↦ (let (input, behind, (text, are, is_said)) = said.done none in is_said.silent (no_lines_at_none call input text are))
  ]

  pub silent_to_nobody : {W : Type 0} (ended : Ended R W) → IsSaid told remaining contents nobody words reader old new ended → status_in ended ≡ 0
      → (new.device ≡ old.device) × (new.is_whole ≡ old.is_whole)
  silent_to_nobody NoMemory says none = absurd (omega (arith, none))
  silent_to_nobody (With status read_to written_to) says none = by_taken status says none (takes shamir_app words) refl
