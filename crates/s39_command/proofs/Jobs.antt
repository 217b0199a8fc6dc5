-- What the words of a command line give.
use Rattle.std.proofs.Common.{◌≡◌, ◌⊎◌, ◌∙◌, ◌<◌, ◌≤◌, ◌^◌, ◌||◌, ⊎_elim, ℕ, arith, codes, Bool, inl, inr, refl, sym, ap, subst, true, false, true≢false, List}
use Rattle.std.proofs.Common.{[], ◌∷◌, Option, Some, None, is_some, length, pos, unwrap_or, Bor, Global}
use Rattle.std.specs.Prelude.{Box, option_map, slice_get}
use Rattle.std.specs.Str.Parse.{ParsesUnsigned, ExplainsUnsignedError, HasUnsignedDigitsIfOk}
use Rattle.std.specs.Str.{bytes_eq}
use Rattle.std.proofs.lemmas.Slice.Eq.{bytes_eq-Decides}
use Rattle.clap.specs.Simple.{filled, with_index}
use Rattle.std.specs.Box.{box_value}
use Rattle.clap.specs.Words.{App, HasMatchesOf, IsAmong, Kinds, ReadsOne, Row, Rule, Shape, Text, fault_of, first_of, first_value, has_subcommand, one_of}
use Rattle.clap.specs.Words.{one_text, rows_of, is_simple, is_simple_and_free, subcommand_name_of, subcommand_of, subcommand_rows, subcommand_rows_of}
use Rattle.clap.specs.Words.{takes}
use Rattle.clap.specs.declared.builder.value_parser.ValueParser.TheVariants as vp
use Rattle.clap.specs.declared.error.kind.ErrorKind.{ErrorKind}
use Rattle.clap.specs.declared.error.kind.ErrorKind.TheVariants.{DisplayHelp, DisplayVersion, OutOfMemory}
use Rattle.clap.specs.declared.parser.matches.ArgMatches.{ArgMatches}
use Rattle.clap.specs.declared.parser.matches.ArgMatches.TheViews.{out-ArgMatches, out-SubCommand}
use Rattle.clap.specs.declared.parser.matches.SubCommand.{SubCommand}
use Rattle.clap.specs.declared.parser.matches.Found.{Found}
use Rattle.clap.proofs.CallerLemmas.{some_of_text}
use Rattle.clap.proofs.WalkLemmas.{first_value-rows, one_text-rows}
use Rattle.s39_clap.specs.Faults.{is_mistake}
use Rattle.s39_clap.specs.Found.{EntersOne, HasNumber, IsFilled, IsOnly, has_some}
use Rattle.s39_clap.proofs.Agreement.{faultless_taken, one_request_or_mistakes, request_alone}
use Rattle.s39_clap.proofs.Entered.{entered_fills, enters_some, named, taken_enters_one}
use Rattle.s39_clap.proofs.Values.{flag_said, has_value, number_read}
use Rattle.s39_command.specs.Command.{AnswersKind, AnswersWords, AsksForText, IsFormSaid, commands, exponent_rule, extendable_rule, fingerprint_rule, flag_text}
use Rattle.s39_command.specs.Command.{limit_rule, names_rule, random_file_rule}
use Rattle.s39_command.specs.Command.{plan_rule}
use Rattle.s39_command.specs.Command.{IsGiven, SaysHelp, shamir_app, shamir_top, text_at}
use Rattle.s39_kdf.specs.declared.secret_form.SecretForm.{SecretForm}
use Rattle.s39_kdf.specs.declared.secret_form.SecretForm.TheVariants.{Digits, Fingerprint}
use Rattle.s39_command.proofs.Help.{help_faults, says_help, settled_app}
use Rattle.s39_command.specs.declared.command.NoJob.{NoJob}
use Rattle.s39_command.specs.declared.command.NoJob.TheVariants.{Help, Refused, Values, Memory}

-- the program's definition is one of which the faults are known
pub known_faults : (a : App) → a ≡ shamir_app → is_simple_and_free a ≡ true
unfolding shamir_app
known_faults a is = ap is_simple_and_free is

-- the program takes the words in which no step fails
pub no_fault_taken : (a : App) (words : List Text) → a ≡ shamir_app → fault_of a words ≡ [] → takes shamir_app words ≡ true
no_fault_taken a words is none = faultless_taken shamir_app words settled_app (ap (λ (x : App). fault_of x words) (sym is) ∙ none)

-- words that it takes name one of its commands
enters_one : (words : List Text) → takes shamir_app words ≡ true → EntersOne commands (subcommand_of shamir_app words)
unfolding shamir_app
enters_one words taken = taken_enters_one shamir_app words refl refl taken

name_of_rows : (m : ArgMatches) → option_map (λ found. found.0) (subcommand_rows_of m) ≡ subcommand_name_of m
name_of_rows m = go (out-ArgMatches m).subcommand
  where
    go : (o : Option (Box SubCommand Global)) → option_map (λ found. found.0) (subcommand_rows o) ≡ option_map (λ b. (out-SubCommand (box_value b)).name.now) o
    go None = refl
    go (Some b) = refl

simple : is_simple shamir_app ≡ true
unfolding shamir_app
simple = refl

same_entered : (f g : Text × List Row) → Some f ≡ Some g → (f.0 ≡ g.0) × (f.1 ≡ g.1)
same_entered f g same = (cc, cc)

other_name : (a b : Text) → bytes_eq a b ≡ false → a ≡ b → ⊥
other_name a b differ same = true≢false (sym ((bytes_eq-Decides a b).1 same) ∙ differ)

-- the command at this place, and its arguments
abbrev pub shape_at : ℕ → Shape
shape_at i = unwrap_or (slice_get commands i) shamir_top

abbrev rules_at : ℕ → List Rule
rules_at i = (shape_at i).rules

-- what was found enters the command of this name
abbrev Enters : Text → Found → Type 0
Enters name f = EntersOne commands (Some (name, rows_of f))

-- a getter has a text
abbrev GetsText : Found → Text → Option (Bor Text) → Type 0
GetsText f id got = option_map (λ t. t.now) got ≡ first_value f id → is_some got ≡ true

-- a getter of numbers with so many bits reads one between these
abbrev GetsNumber : ℕ → ℕ → ℕ → Found → Text → Option ℕ → Type 0
GetsNumber bits low high f id got = ((t : Text) → one_text f id ≡ Some t
    → ReadsOne (λ bs r. ParsesUnsigned bits 10 bs r × ExplainsUnsignedError 10 bs r × HasUnsignedDigitsIfOk bs r) t got)
    → (n : ℕ) × (got ≡ Some n) × (low ≤ n) × (n ≤ high) × HasNumber id (rows_of f) n

-- a getter of a flag reads whether it is said
abbrev SaysOrNot : Found → Text → Type 0
SaysOrNot f id = (one_text f id ≡ Some (codes "true")) ⊎ (one_text f id ≡ Some (codes "false"))

module _ (i : ℕ) (name : Text) (only : named name commands ≡ shape_at i ∷ []) (f : Found) (enters : Enters name f) (a : Rule) (id : Text)
    (alone : IsOnly a id (rules_at i)) (wanted : (a.required || has_some a.defaults) ≡ true) where
  fills : IsFilled (rules_at i) (rows_of f)
  fills = entered_fills commands name (rows_of f) (shape_at i) only enters

  text_there : (got : Option (Bor Text)) → GetsText f id got
  text_there got given =
      let value = has_value (rules_at i) (rows_of f) a id alone wanted fills in
      some_of_text (λ t. t.now) got _ (given ∙ first_value-rows f id) (ap is_some value.1.first)

  number_there : (bits low high : ℕ) (got : Option ℕ) → a.parser ≡ Some (vp.Signed (pos low) (pos high)) → high < 2 ^ bits
      → GetsNumber bits low high f id got
  number_there bits low high got parser fits reads =
      number_read _ (λ bs r. ParsesUnsigned bits 10 bs r × ExplainsUnsignedError 10 bs r × HasUnsignedDigitsIfOk bs r) bits low high (rules_at i) (rows_of f) a
      id got alone wanted parser fills (λ u x gives. gives.0) fits (λ u has. reads u (one_text-rows f id ∙ has))

  flag_there : a.parser ≡ Some vp.Bool → SaysOrNot f id
  flag_there parser = ⊎_elim (λ said. inl (one_text-rows f id ∙ said)) (λ unsaid. inr (one_text-rows f id ∙ unsaid))
      (flag_said (rules_at i) (rows_of f) a id alone wanted parser fills)

module _ (f : Found) where
  pub plan_there : (got : Option (Bor Text)) → Enters (codes "create") f → GetsText f (codes "plan") got
  unfolding shamir_app
  plan_there got enters = text_there 1 (codes "create") refl f enters (with_index 1 (filled plan_rule)) (codes "plan") refl refl got

  pub reissue_plan_there : (got : Option (Bor Text)) → Enters (codes "reissue") f → GetsText f (codes "plan") got
  unfolding shamir_app
  reissue_plan_there got enters = text_there 5 (codes "reissue") refl f enters (with_index 1 (filled plan_rule)) (codes "plan") refl refl got

  pub names_there : (got : Option (Bor Text)) → Enters (codes "reissue") f → GetsText f (codes "names") got
  unfolding shamir_app
  names_there got enters = text_there 5 (codes "reissue") refl f enters (with_index 2 (filled names_rule)) (codes "names") refl refl got

  pub resplit_plan_there : (got : Option (Bor Text)) → Enters (codes "resplit") f → GetsText f (codes "plan") got
  unfolding shamir_app
  resplit_plan_there got enters = text_there 7 (codes "resplit") refl f enters (with_index 1 (filled plan_rule)) (codes "plan") refl refl got

  pub random_file_there : (got : Option (Bor Text)) → Enters (codes "resplit") f → GetsText f (codes "random-file") got
  unfolding shamir_app
  random_file_there got enters =
      text_there 7 (codes "resplit") refl f enters (with_index 2 (filled random_file_rule)) (codes "random-file") refl refl got

  pub exponent_there : (got : Option ℕ) → Enters (codes "create") f → GetsNumber 8 0 15 f (codes "exponent") got
  unfolding shamir_app
  exponent_there got enters =
      number_there 1 (codes "create") refl f enters (with_index 2 (filled exponent_rule)) (codes "exponent") refl refl 8 0 15 got refl (omega arith)

  pub limit_there : (got : Option ℕ) → Enters (codes "drill") f → GetsNumber 32 1 4294967295 f (codes "limit") got
  unfolding shamir_app
  limit_there got enters =
      number_there 3 (codes "drill") refl f enters (with_index 1 (filled limit_rule)) (codes "limit") refl refl 32 1 4294967295 got refl (omega arith)

  pub extendable_there : (said : Bool) → Enters (codes "create") f → (one_text f (codes "extendable") ≡ Some (codes "true") → said ≡ true)
      → (one_text f (codes "extendable") ≡ Some (codes "false") → said ≡ false) → one_of (codes "extendable") (rows_of f) ≡ Some (flag_text said)
  unfolding shamir_app
  extendable_there said enters is_true is_false =
      sym (one_text-rows f (codes "extendable"))
      ∙ ⊎_elim (λ there. there ∙ ap (λ b. Some (flag_text b)) (sym (is_true there))) (λ missing. missing ∙ ap (λ b. Some (flag_text b)) (sym (is_false missing)))
      (flag_there 1 (codes "create") refl f enters (with_index 2 (filled extendable_rule)) (codes "extendable") refl refl refl)

  module _ (form : SecretForm) where
    -- a getter of the flag reads the form
    abbrev ReadsForm : Type 0
    ReadsForm = (one_text f (codes "fingerprint") ≡ Some (codes "true") → form ≡ Fingerprint)
        → (one_text f (codes "fingerprint") ≡ Some (codes "false") → form ≡ Digits) → IsFormSaid (rows_of f) form

    form_there : SaysOrNot f (codes "fingerprint") → ReadsForm
    form_there (inl said) is_true is_false =
        subst (IsFormSaid (rows_of f)) (sym (is_true said)) (sym (one_text-rows f (codes "fingerprint")) ∙ said)
    form_there (inr unsaid) is_true is_false =
        subst (IsFormSaid (rows_of f)) (sym (is_false unsaid)) (sym (one_text-rows f (codes "fingerprint")) ∙ unsaid)

    pub recover_form_there : Enters (codes "recover") f → ReadsForm
    unfolding shamir_app
    recover_form_there enters =
        form_there (flag_there 2 (codes "recover") refl f enters (with_index 1 (filled fingerprint_rule)) (codes "fingerprint") refl refl refl)

    pub drill_form_there : Enters (codes "drill") f → ReadsForm
    unfolding shamir_app
    drill_form_there enters =
        form_there (flag_there 3 (codes "drill") refl f enters (with_index 1 (filled fingerprint_rule)) (codes "fingerprint") refl refl refl)

-- a text that is got is what is found
pub found_of_rows : (f : Found) (id : Text) (got : Option (Bor Text)) (text : Bor Text) → option_map (λ t. t.now) got ≡ first_value f id → got ≡ Some text
    → first_of id (rows_of f) ≡ Some text.now
found_of_rows f id got text given some = sym (first_value-rows f id) ∙ sym given ∙ ap (option_map (λ (t : Bor Text). t.now)) some

-- a text is found where a getter has one
pub given_of_rows : (f : Found) (id : Text) (got : Option (Bor Text)) → option_map (λ t. t.now) got ≡ first_value f id → is_some got ≡ true
    → IsGiven id (text_at (rows_of f))
given_of_rows f id None given some = absurd (true≢false (sym some))
given_of_rows f id (Some text) given some = (text.now, sym (first_value-rows f id) ∙ sym given)

-- and none where it has none
pub missing_of_rows : (f : Found) (id : Text) (got : Option (Bor Text)) → option_map (λ t. t.now) got ≡ first_value f id → is_some got ≡ false
    → first_of id (rows_of f) ≡ None
missing_of_rows f id None given none = sym (first_value-rows f id) ∙ sym given
missing_of_rows f id (Some text) given none = absurd (true≢false none)

-- a text is found, and it is this one, where a getter has it
pub said_of_rows : (f : Found) (id wanted : Text) (got : Option (Bor Text)) (text : Bor Text) → option_map (λ t. t.now) got ≡ first_value f id → got ≡ Some text
    → bytes_eq text.now wanted ≡ true → first_of id (rows_of f) ≡ Some wanted
said_of_rows f id wanted got text given some is =
    found_of_rows f id got text given some ∙ ap (λ (t : Text). Some t) ((bytes_eq-Decides text.now wanted).0 is)

-- and none that is it where a getter has another
pub unsaid_of_rows : (f : Found) (id wanted : Text) (got : Option (Bor Text)) (text : Bor Text) → option_map (λ t. t.now) got ≡ first_value f id
    → got ≡ Some text → bytes_eq text.now wanted ≡ false → first_of id (rows_of f) ≡ Some wanted → ⊥
unsaid_of_rows f id wanted got text given some other is =
    let same : text.now ≡ wanted = let both : Some text.now ≡ Some wanted = sym (found_of_rows f id got text given some) ∙ is in cc in
    other_name text.now wanted other same

-- what a parse met is what the words give
rows_given : (a : App) (words : List Text) (m : ArgMatches) → a ≡ shamir_app → HasMatchesOf a words m → subcommand_rows_of m ≡ subcommand_of shamir_app words
rows_given a words m is matches = (matches (ap is_simple is ∙ simple)).1 ∙ ap (λ (x : App). subcommand_of x words) is

-- a parse meets a command
pub never_none : (a : App) (words : List Text) (m : ArgMatches) → a ≡ shamir_app → HasMatchesOf a words m → fault_of a words ≡ [] → false ≡ has_subcommand m → ⊥
never_none a words m is matches none missing =
    let some = enters_some commands (subcommand_of shamir_app words) (enters_one words (no_fault_taken a words is none)) in
    true≢false (sym some ∙ (ap is_some (sym (rows_given a words m is matches)) ∙ (has_rows (out-ArgMatches m).subcommand ∙ sym missing)))
  where
    has_rows : (o : Option (Box SubCommand Global)) → is_some (subcommand_rows o) ≡ is_some o
    has_rows None = refl
    has_rows (Some b) = refl

-- the name and the rows that were met are those that the words give
pub met_is : (a : App) (words : List Text) (m : ArgMatches) (name : Text) (rows : List Row) → a ≡ shamir_app → HasMatchesOf a words m
    → Some name ≡ subcommand_name_of m → Some rows ≡ option_map (λ found. found.1) (subcommand_rows_of m) → subcommand_of shamir_app words ≡ Some (name, rows)
met_is a words m name rows is matches named found =
    sym (rows_given a words m is matches) ∙ go (subcommand_rows_of m) (name_of_rows m ∙ sym named) (sym found)
  where
    go : (o : Option (Text × List Row)) → option_map (λ f. f.0) o ≡ Some name → option_map (λ f. f.1) o ≡ Some rows → o ≡ Some (name, rows)
    go None named found = cc
    go (Some f) named found =
        let same : f.0 ≡ name = cc in
        let rest : f.1 ≡ rows = cc in
        (λ i. Some (same i, rest i))

-- and they are of one of the program's commands
pub met_enters : (a : App) (words : List Text) (name : Text) (rows : List Row) → a ≡ shamir_app → fault_of a words ≡ []
    → subcommand_of shamir_app words ≡ Some (name, rows) → EntersOne commands (Some (name, rows))
met_enters a words name rows is none met = subst (EntersOne commands) met (enters_one words (no_fault_taken a words is none))

-- an error that goes with a text is no mistake
asks_of : (k : ErrorKind) (count : ℕ) → (k ≡ DisplayHelp) ⊎ ((k ≡ DisplayVersion) × (count ≡ 2)) → is_mistake k ≡ false
asks_of k count shown = ⊎_elim (λ h. ap is_mistake h) (λ v. ap is_mistake v.0) shown

-- an error of one of the words' kinds gets the answer that the words get
pub answer_by_kind : (answer : NoJob) (k : ErrorKind) (a : App) (words : List Text) → a ≡ shamir_app → AnswersKind answer k (length words)
    → (k ≡ OutOfMemory) ⊎ IsAmong k (fault_of a words) → (takes a words ≡ true → k ≡ OutOfMemory) → (SaysHelp words → ⊥) → AnswersWords answer words
answer_by_kind Memory k a words is shown among passes unsaid = tt
answer_by_kind (Values bad) k a words is shown among passes unsaid = absurd shown
answer_by_kind (Help text) k a words is shown among passes unsaid =
    ⊎_elim (λ lacks. absurd (true≢false (sym (ap is_mistake lacks) ∙ asks_of k (length words) shown)))
    (λ one. inr (told (request_alone k (fault_of shamir_app words) (asks_of k (length words) shown)
    (one_request_or_mistakes shamir_app words settled_app) (subst (λ (x : App). IsAmong k (fault_of x words)) is one))))
    among
  where
    told : (fault_of shamir_app words ≡ DisplayHelp ∷ []) ⊎ (fault_of shamir_app words ≡ DisplayVersion ∷ [])
        → (fault_of shamir_app words ≡ DisplayHelp ∷ []) ⊎ ((fault_of shamir_app words ≡ DisplayVersion ∷ []) × (length words ≡ 2))
    told (inl help) = inl help
    told (inr version) = ⊎_elim (λ other. absurd (mixed other)) (λ both. inr (version, both.1)) shown
      where
        mixed : k ≡ DisplayHelp → ⊥
        mixed help = ⊎_elim (λ lacks. cc) (λ one. ⊎_elim (λ same. cc) (λ none. absurd none)
            (subst (λ (kinds : Kinds). IsAmong k kinds) (ap (λ (x : App). fault_of x words) is ∙ version) one)) among
answer_by_kind (Refused text) k a words is shown among passes unsaid = (not_taken (takes shamir_app words) refl, no_request)
  where
    not_taken : (b : Bool) → takes shamir_app words ≡ b → takes shamir_app words ≡ false
    not_taken true taken = absurd (shown.2 (passes (ap (λ (x : App). takes x words) is ∙ taken)))
    not_taken false taken = taken

    only : (kind : ErrorKind) → fault_of shamir_app words ≡ kind ∷ [] → (k ≡ OutOfMemory) ⊎ (k ≡ kind)
    only kind asks = ⊎_elim (λ lacks. inl lacks) (λ one. ⊎_elim (λ same. inr same) (λ none. absurd none)
        (subst (λ (kinds : Kinds). IsAmong k kinds) (ap (λ (x : App). fault_of x words) is ∙ asks) one)) among

    no_request : AsksForText words → ⊥
    no_request (inl said) = unsaid (says_help words said)
    no_request (inr (inl help)) = ⊎_elim (λ lacks. shown.2 lacks) (λ same. shown.0 same) (only DisplayHelp help)
    no_request (inr (inr version)) = ⊎_elim (λ lacks. shown.2 lacks) (λ same. shown.1 same version.1) (only DisplayVersion version.0)

-- words in which no step fails ask for no text
pub asks_none : (words : List Text) → fault_of shamir_app words ≡ [] → AsksForText words → ⊥
asks_none words none (inl said) = let faults = help_faults words (says_help words said) in cc
asks_none words none (inr (inl help)) = cc
asks_none words none (inr (inr (version, two))) = cc
