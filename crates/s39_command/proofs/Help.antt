-- Words that say `help`.
use Rattle.std.proofs.Common.{◌≡◌, ◌⊎◌, ◌∙◌, ⊎_elim, arith, codes, Bool, inl, inr, refl, sym, ap, subst, true, false, true≢false, List, [], ◌∷◌, Some, Bor, length, map}
use Rattle.std.specs.Prelude.{◌≢◌, slice_index_or}
use Rattle.clap.proofs.WalkLemmas.{both}
use Rattle.clap.specs.Faults.{walk_fault}
use Rattle.clap.specs.Takes.{walk_passes}
use Rattle.clap.specs.Words.{App, IsAmong, Kinds, Text, fault_of, is_simple, takes}
use Rattle.clap.specs.declared.error.kind.ErrorKind.{ErrorKind}
use Rattle.clap.specs.declared.error.kind.ErrorKind.TheVariants.{DisplayHelp, DisplayVersion, InvalidSubcommand, OutOfMemory, UnknownArgument}
use Rattle.s39_clap.proofs.Agreement.{one_request_or_mistakes, request_alone}
use Rattle.s39_clap.specs.Faults.{is_mistake, is_settled_app}
use Rattle.s39_command.specs.Command.{AnswersHelp, AnswersKind, AnswersWords, AsksByHelp, AsksForText, IsRefusal, SaysHelp, shamir_app}
use Rattle.s39_command.specs.declared.command.NoJob.{NoJob}
use Rattle.s39_command.specs.declared.command.NoJob.TheVariants.{Help, Refused, Values, Memory}

-- the program's definition is settled
pub settled_app : is_settled_app shamir_app ≡ true
unfolding shamir_app
settled_app = refl

-- words that ask for help by `help` say it
pub says_help : (words : List Text) → AsksByHelp words → SaysHelp words
says_help (program ∷ said ∷ []) asks = ap (λ (t : Text). Some t) asks
says_help (program ∷ said ∷ name ∷ []) asks = ap (λ (t : Text). Some t) asks.0
says_help _ asks = absurd asks

-- the definition doesn't take words that say `help`
pub help_is_no_command : (words : List Text) → SaysHelp words → takes shamir_app words ≡ true → ⊥
unfolding shamir_app walk_passes
help_is_no_command [] said taken = cc
help_is_no_command (p ∷ []) said taken = cc
help_is_no_command (p ∷ word ∷ rest) said taken =
    let same : word ≡ codes "help" = cc in
    let named : takes shamir_app (p ∷ codes "help" ∷ rest) ≡ true = subst (λ (w : Text). takes shamir_app (p ∷ w ∷ rest) ≡ true) same taken in
    true≢false (sym (both _ _ (both (is_simple shamir_app) _ named).1).1)

-- their faults
pub help_faults : (words : List Text) → SaysHelp words → fault_of shamir_app words ≡ UnknownArgument ∷ InvalidSubcommand ∷ []
unfolding shamir_app walk_fault
help_faults [] says = cc
help_faults (p ∷ []) says = cc
help_faults (p ∷ word ∷ rest) says =
    let same : codes "help" ≡ word = cc in
    subst (λ (w : Text). fault_of shamir_app (p ∷ w ∷ rest) ≡ UnknownArgument ∷ InvalidSubcommand ∷ []) same refl

-- words that say `help` are no command, and ask for no text by an option
not_taken_by_help : (words : List Text) → SaysHelp words → takes shamir_app words ≡ false
not_taken_by_help words says = by (takes shamir_app words) refl
  where
    by : (taken : Bool) → takes shamir_app words ≡ taken → takes shamir_app words ≡ false
    by true taken = absurd (help_is_no_command words says taken)
    by false taken = taken

asks_by_help : (words : List Text) → SaysHelp words → AsksForText words → AsksByHelp words
asks_by_help words says (inl by_help) = by_help
asks_by_help words says (inr (inl help)) = let faults = help_faults words says in cc
asks_by_help words says (inr (inr (version, two))) = let faults = help_faults words says in cc

-- `help` and a word get what this word and `--help` ask for
help_with_name : (answer : NoJob) (program said name : Text) → AnswersHelp answer (fault_of shamir_app (program ∷ name ∷ codes "--help" ∷ []))
    → SaysHelp (program ∷ said ∷ name ∷ []) → AnswersWords answer (program ∷ said ∷ name ∷ [])
help_with_name (Help text) program said name is says = inl (let same : said ≡ codes "help" = cc in same, is)
help_with_name Memory program said name is says = tt
help_with_name (Refused text) program said name is says = (
  not_taken_by_help (program ∷ said ∷ name ∷ []) says,
  λ asks. is (asks_by_help (program ∷ said ∷ name ∷ []) says asks).1,
)
help_with_name (Values bad) program said name is says = absurd is

-- `help` and more words are refused
help_with_more : (answer : NoJob) (words : List Text) → IsRefusal answer → SaysHelp words → (AsksByHelp words → ⊥) → AnswersWords answer words
help_with_more (Help text) words is says none = absurd is
help_with_more Memory words is says none = tt
help_with_more (Refused text) words is says none = (not_taken_by_help words says, λ asks. none (asks_by_help words says asks))
help_with_more (Values bad) words is says none = absurd is

-- what an error of the words of a command and `--help` gets
pub help_by_kind : (answer : NoJob) (k : ErrorKind) (a : App) (words : List Text) → a ≡ shamir_app → AnswersKind answer k 3
    → (k ≡ OutOfMemory) ⊎ IsAmong k (fault_of a words) → AnswersHelp answer (fault_of shamir_app words)
help_by_kind Memory k a words is shown among = tt
help_by_kind (Values bad) k a words is shown among = absurd shown
help_by_kind (Help text) k a words is shown among =
    let help : k ≡ DisplayHelp = ⊎_elim (λ h. h) (λ v. absurd (omega (arith, v.1))) shown in
    ⊎_elim (λ lacks. cc)
    (λ one. alone help (subst (λ (x : App). IsAmong k (fault_of x words)) is one))
    among
  where
    alone : k ≡ DisplayHelp → IsAmong k (fault_of shamir_app words) → fault_of shamir_app words ≡ DisplayHelp ∷ []
    alone help one = by (request_alone k (fault_of shamir_app words) (ap is_mistake help) (one_request_or_mistakes shamir_app words settled_app) one)
      where
        by : (fault_of shamir_app words ≡ DisplayHelp ∷ []) ⊎ (fault_of shamir_app words ≡ DisplayVersion ∷ [])
            → fault_of shamir_app words ≡ DisplayHelp ∷ []
        by (inl is_help) = is_help
        by (inr version) = ⊎_elim (λ same. cc) (λ none. absurd none) (subst (λ (kinds : Kinds). IsAmong k kinds) version one)
help_by_kind (Refused text) k a words is shown among = λ faults.
    ⊎_elim (λ lacks. shown.2 lacks) (λ one. ⊎_elim (λ same. shown.0 same) (λ none. absurd none)
    (subst (λ (kinds : Kinds). IsAmong k kinds) (ap (λ (x : App). fault_of x words) is ∙ faults) one)) among

-- nor do words that are taken get help
pub help_if_taken : (answer : NoJob) (a : App) (words : List Text) → a ≡ shamir_app → IsRefusal answer → fault_of a words ≡ []
    → AnswersHelp answer (fault_of shamir_app words)
help_if_taken Memory a words is refused none = tt
help_if_taken (Help text) a words is refused none = absurd refused
help_if_taken (Values bad) a words is refused none = absurd refused
help_if_taken (Refused text) a words is refused none = λ help.
    let faultless = ap (λ (x : App). fault_of x words) (sym is) ∙ none in cc

-- ---- by the number of the words

pub help_of_three : (words : List (Bor Text)) (d e : Bor Text) (answer : NoJob) → length words ≡ 3
    → AnswersHelp answer (fault_of shamir_app ((slice_index_or words 0 d).now ∷ (slice_index_or words 2 e).now ∷ codes "--help" ∷ []))
    → SaysHelp (map (λ word. word.now) words) → AnswersWords answer (map (λ word. word.now) words)
help_of_three [] d e answer three is says = absurd (omega (arith, three))
help_of_three (p ∷ []) d e answer three is says = absurd (omega (arith, three))
help_of_three (p ∷ said ∷ []) d e answer three is says = absurd (omega (arith, three))
help_of_three (p ∷ said ∷ name ∷ []) d e answer three is says = help_with_name answer p.now said.now name.now is says
help_of_three (p ∷ said ∷ name ∷ more ∷ rest) d e answer three is says = absurd (omega (arith, three))

pub help_of_others : (words : List (Bor Text)) (answer : NoJob) → length words ≢ 2 → length words ≢ 3 → IsRefusal answer
    → SaysHelp (map (λ word. word.now) words) → AnswersWords answer (map (λ word. word.now) words)
help_of_others words answer not_two not_three is says = help_with_more answer (map (λ word. word.now) words) is says (neither words not_two not_three)
  where
    neither : (words : List (Bor Text)) → length words ≢ 2 → length words ≢ 3 → AsksByHelp (map (λ word. word.now) words) → ⊥
    neither [] not_two not_three asks = asks
    neither (p ∷ []) not_two not_three asks = asks
    neither (p ∷ said ∷ []) not_two not_three asks = not_two refl
    neither (p ∷ said ∷ name ∷ []) not_two not_three asks = not_three refl
    neither (p ∷ said ∷ name ∷ more ∷ rest) not_two not_three asks = asks
