use Rattle.std.proofs.Common.{◌∙◌, ap, inl, map, List, subst, sym, ℕ, Bor}
use Rattle.std.proofs.lemmas.List.{length-map}
use Rattle.s39_command.specs.Command.{AnswersKind}
use Rattle.clap.specs.Words.{App, app_of, fault_of, found_of, kind_of, rows_of, takes}
use Rattle.s39_command.proofs.Jobs.{answer_by_kind, asks_none, known_faults, met_enters, met_is, never_none, no_fault_taken}
use Rattle.s39_command.proofs.Help.{help_is_no_command}
use Rattle.s39_command.proofs.command.read_words.Goals as goal

pub returns-in-Err-clause-memory : goal.returns-in-Err-clause-memory
returns-in-Err-clause-memory c taken =
    let words = map (λ (word : Bor (List ℕ)). word.now) c.args.words.now in
    inl (c.no_job.ensures.memory (c.in-Err.ensures.passes (ap (λ (a : App). takes a words) c.in_ok-command.ensures ∙ taken)))

pub returns-in-Err-clause-answer : goal.returns-in-Err-clause-answer
returns-in-Err-clause-answer c =
    let words = map (λ (word : Bor (List ℕ)). word.now) c.args.words.now in
    let a = app_of c.in_ok-command.command in
    answer_by_kind c.no_job.result (kind_of c.in-Err.error) a words c.in_ok-command.ensures
    (subst (AnswersKind c.no_job.result (kind_of c.in-Err.error))
    (sym (length-map c.args.words.now (λ (word : Bor (List ℕ)). word.now))) c.no_job.ensures.answer)
    (c.in-Err.ensures.kinds (known_faults a c.in_ok-command.ensures)) c.in-Err.ensures.passes (c.says_help.ensures.unsaid c.if-says_help.false)

pub job_of-requires : goal.job_of-requires
job_of-requires c =
    let words = map (λ (word : Bor (List ℕ)). word.now) c.args.words.now in
    let a = app_of c.in_ok-command.command in
    let rows = rows_of (found_of c.in-Some.options.now) in
    let met = met_is a words c.in-Ok.matches c.in-Some.name.now rows c.in_ok-command.ensures c.in-Ok.ensures.matches c.in-Some.ensures.name
    c.in-Some.ensures.rows in
    met_enters a words c.in-Some.name.now rows c.in_ok-command.ensures (c.in-Ok.ensures.kinds (known_faults a c.in_ok-command.ensures)) met

pub returns-clause-call : goal.returns-clause-call
returns-clause-call c =
    let words = map (λ (word : Bor (List ℕ)). word.now) c.args.words.now in
    let a = app_of c.in_ok-command.command in
    let rows = rows_of (found_of c.in-Some.options.now) in
    let met = met_is a words c.in-Ok.matches c.in-Some.name.now rows c.in_ok-command.ensures c.in-Ok.ensures.matches c.in-Some.ensures.name
    c.in-Some.ensures.rows in (
      c.in-Some.name.now,
      rows,
      met,
      c.job_of.ensures.gives,
      c.texts_of.ensures,
      c.texts_of-in-Some.ensures,
      c.in_default.ensures.sound,
    )

pub returns-in-Some-bad_values-clause-answer : goal.returns-in-Some-bad_values-clause-answer
returns-in-Some-bad_values-clause-answer c =
    let words = map (λ (word : Bor (List ℕ)). word.now) c.args.words.now in
    let a = app_of c.in_ok-command.command in
    let rows = rows_of (found_of c.in-Some.options.now) in
    let met = met_is a words c.in-Ok.matches c.in-Some.name.now rows c.in_ok-command.ensures c.in-Ok.ensures.matches c.in-Some.ensures.name
    c.in-Some.ensures.rows in
    let none = c.in-Ok.ensures.kinds (known_faults a c.in_ok-command.ensures) in (
      no_fault_taken a words c.in_ok-command.ensures none,
      asks_none words (ap (λ (x : App). fault_of x words) (sym c.in_ok-command.ensures) ∙ none),
      (c.in-Some.name.now, rows, met, c.in-Some-bad_values.ensures.bad),
    )

pub returns-clause-taken : goal.returns-clause-taken
returns-clause-taken c =
    let words = map (λ (word : Bor (List ℕ)). word.now) c.args.words.now in
    let a = app_of c.in_ok-command.command in
    no_fault_taken a words c.in_ok-command.ensures (c.in-Ok.ensures.kinds (known_faults a c.in_ok-command.ensures))

pub unreachable-requires : goal.unreachable-requires
unreachable-requires c =
    let words = map (λ (word : Bor (List ℕ)). word.now) c.args.words.now in
    let a = app_of c.in_ok-command.command in
    never_none a words c.in-Ok.matches c.in_ok-command.ensures c.in-Ok.ensures.matches (c.in-Ok.ensures.kinds (known_faults a c.in_ok-command.ensures))
    c.in-None.ensures.variant

pub returns-clause-faultless : goal.returns-clause-faultless
returns-clause-faultless c =
    let words = map (λ (word : Bor (List ℕ)). word.now) c.args.words.now in
    let a = app_of c.in_ok-command.command in
    ap (λ (x : App). fault_of x words) (sym c.in_ok-command.ensures) ∙ c.in-Ok.ensures.kinds (known_faults a c.in_ok-command.ensures)

pub returns-then-says_help-clause-memory : goal.returns-then-says_help-clause-memory
returns-then-says_help-clause-memory c taken =
    let words = map (λ (word : Bor (List ℕ)). word.now) c.args.words.now in
    absurd (help_is_no_command words (c.says_help.ensures.said c.if-says_help.true) taken)
