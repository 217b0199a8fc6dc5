-- The command line.
use Rattle.std.specs.Prelude.{◌≡◌, ◌≢◌, ◌⊎◌, ◌++◌, ◌<◌, ◌≤◌, ◌^◌, ℕ, Bool, true, false, List, Option, [], ◌∷◌, codes, length, if◌then◌else◌, pos, Some, None, option_map, slice_get}
use Rattle.std.specs.Borrow.{Bor}
use Rattle.clap.specs.Words.{App, Row, Rule, Shape, Text, built, fault_of, first_of, new_app, new_rule, one_of}
use Rattle.clap.specs.Words.{subcommand_of, takes, with_rule, with_subcommand}
use Rattle.clap.specs.declared.builder.action.ArgAction.TheVariants.{SetTrue}
use Rattle.clap.specs.declared.builder.value_parser.ValueParser.TheVariants.{Signed}
use Rattle.clap.specs.declared.error.kind.ErrorKind.{ErrorKind}
use Rattle.clap.specs.declared.error.kind.ErrorKind.TheVariants.{DisplayHelp, DisplayVersion, OutOfMemory}
use Rattle.s39_clap.specs.Found.{HasNumber}
use Rattle.s39_kdf.specs.Limits.{exponent_bits}
use Rattle.s39_kdf.specs.declared.secret_form.SecretForm.{SecretForm}
use Rattle.s39_kdf.specs.declared.secret_form.SecretForm.TheVariants.{Digits, Fingerprint, Expected}
use Rattle.s39_command.specs.declared.command.Job.{Job}
use Rattle.s39_command.specs.declared.command.Job.TheVariants.{Show, Create, Recover, Drill, Status, Reissue, Repair, Resplit}
use Rattle.s39_command.specs.declared.command.NoJob.{NoJob}
use Rattle.s39_command.specs.declared.command.NoJob.TheVariants.{Help, Refused, Values, Memory}
use Rattle.s39_command.specs.declared.command.Call.{Call}
use Rattle.s39_command.specs.declared.command.Texts.{Texts}
use Rattle.s39_command.specs.declared.command.BadValues.{BadValues}
use Rattle.s39_command.specs.declared.command.BadValues.TheVariants.{NoSecret, TwoSecrets, TwoPassphrases, TwoForms, RandomInput}

-- the command `show`
abbrev pub show_app : App
show_app = new_app (codes "show")

-- an option of this name with a value, which has no default
abbrev pub option_rule : Text → Rule
option_rule name = record (new_rule name) {
  long = Some name;
  value_names = 1;
}

-- the option `--passphrase TEXT`
abbrev pub passphrase_rule : Rule
passphrase_rule = option_rule (codes "passphrase")

-- the plan, which has to be given
abbrev pub plan_rule : Rule
plan_rule = record (new_rule (codes "plan")) {
  value_names = 1;
  required = true;
}

-- the option `--passphrase-file FILE`
abbrev pub passphrase_file_rule : Rule
passphrase_file_rule = option_rule (codes "passphrase-file")

-- the option `--master-secret HEX`
abbrev pub secret_rule : Rule
secret_rule = option_rule (codes "master-secret")

-- the option `--master-secret-file FILE`
abbrev pub secret_file_rule : Rule
secret_file_rule = option_rule (codes "master-secret-file")

-- the option `--exponent E`, a number from 0 to 15, by default 0
abbrev pub exponent_rule : Rule
exponent_rule = record (option_rule (codes "exponent")) {
  defaults = codes "0" ∷ [];
  parser = Some (Signed (pos 0) (pos 15));
}

-- a flag of this name
abbrev pub flag_rule : Text → Rule
flag_rule name = record (new_rule name) {
  long = Some name;
  action = Some SetTrue;
}

-- the flag `--extendable`
abbrev pub extendable_rule : Rule
extendable_rule = flag_rule (codes "extendable")

-- the command `create`, with these
abbrev pub create_app : App
create_app = with_rule (with_rule (with_rule (with_rule (with_rule (with_rule (with_rule (new_app (codes "create"))
    plan_rule) secret_rule) secret_file_rule) passphrase_rule) passphrase_file_rule) exponent_rule) extendable_rule

-- the flag `--fingerprint`
abbrev pub fingerprint_rule : Rule
fingerprint_rule = flag_rule (codes "fingerprint")

-- the option `--expect FINGERPRINT`
abbrev pub expect_rule : Rule
expect_rule = option_rule (codes "expect")

-- the command `recover`, with the options of the passphrase, the flag and this option
abbrev pub recover_app : App
recover_app = with_rule (with_rule (with_rule (with_rule (new_app (codes "recover")) passphrase_rule) passphrase_file_rule)
    fingerprint_rule) expect_rule

-- the option `--after Q`
abbrev pub after_rule : Rule
after_rule = option_rule (codes "after")

-- the option `--limit N`, a number from 1 to 4294967295, by default 1000
abbrev pub limit_rule : Rule
limit_rule = record (option_rule (codes "limit")) {
  defaults = codes "1000" ∷ [];
  parser = Some (Signed (pos 1) (pos 4294967295));
}

-- the command `drill`, with these, the options of the passphrase, the flag and the option of a fingerprint
abbrev pub drill_app : App
drill_app = with_rule (with_rule (with_rule (with_rule (with_rule (with_rule (new_app (codes "drill")) passphrase_rule) passphrase_file_rule)
    after_rule) limit_rule) fingerprint_rule) expect_rule

-- the command `status`
abbrev pub status_app : App
status_app = new_app (codes "status")

-- the names of mnemonics, which have to be given
abbrev pub names_rule : Rule
names_rule = record (new_rule (codes "names")) {
  value_names = 1;
  required = true;
}

-- the command `reissue`, with a plan and these
abbrev pub reissue_app : App
reissue_app = with_rule (with_rule (new_app (codes "reissue")) plan_rule) names_rule

-- the command `repair`
abbrev pub repair_app : App
repair_app = new_app (codes "repair")

-- the option `--random-file FILE`, which has to be given
abbrev pub random_file_rule : Rule
random_file_rule = record (option_rule (codes "random-file")) {
  required = true;
}

-- the command `resplit`, with a plan and this
abbrev pub resplit_app : App
resplit_app = with_rule (with_rule (new_app (codes "resplit")) plan_rule) random_file_rule

-- the program, which has a version and has to be given a command; without any argument, its error has the text of help
abbrev pub shamir_top : Shape
shamir_top = record (new_app (codes "shamir")).top {
  has_version = true;
  subcommand_required = true;
  arg_required_else_help = true;
  disable_help_subcommand = true;
}

-- the program with its commands
unfoldable pub shamir_app : App
shamir_app = with_subcommand (with_subcommand (with_subcommand (with_subcommand (with_subcommand (with_subcommand (with_subcommand
    (with_subcommand (record { top = shamir_top; subs = [] }) show_app.top) create_app.top)
    recover_app.top) drill_app.top) status_app.top) reissue_app.top) repair_app.top) resplit_app.top

-- its commands, built
abbrev pub commands : List Shape
commands = (built shamir_app).subs

-- whether a flag is said, as text
abbrev pub flag_text : Bool → Text
flag_text said = if said then codes "true" else codes "false"

-- the form in which a secret is written: its fingerprint if the flag is given, and otherwise its digits
abbrev pub IsFormSaid : List Row → SecretForm → Type 0
IsFormSaid rows Digits = one_of (codes "fingerprint") rows ≡ Some (flag_text false)
IsFormSaid rows Fingerprint = one_of (codes "fingerprint") rows ≡ Some (flag_text true)
IsFormSaid rows (Expected noted) = ⊥

-- the text that is lent, if there is one
abbrev pub text_in : Option (Bor Text) → Option Text
text_in lent = option_map (λ text. text.now) lent

-- the command of this name, with what is found for its arguments, gives the job
abbrev pub Gives : Text → List Row → Job → Type 0
Gives name rows Show = name ≡ codes "show"
Gives name rows (Create plan exponent extendable) = (name ≡ codes "create")
    × (first_of (codes "plan") rows ≡ Some plan.now) × HasNumber (codes "exponent") rows exponent
    × (one_of (codes "extendable") rows ≡ Some (flag_text extendable))
Gives name rows (Recover form expected) =
    (name ≡ codes "recover") × IsFormSaid rows form × (text_in expected ≡ first_of (codes "expect") rows)
Gives name rows (Drill after limit form expected) =
    (name ≡ codes "drill") × (text_in after ≡ first_of (codes "after") rows)
    × HasNumber (codes "limit") rows limit × IsFormSaid rows form × (text_in expected ≡ first_of (codes "expect") rows)
Gives name rows Status = name ≡ codes "status"
Gives name rows (Reissue plan names) = (name ≡ codes "reissue")
    × (first_of (codes "plan") rows ≡ Some plan.now)
    × (first_of (codes "names") rows ≡ Some names.now)
Gives name rows Repair = name ≡ codes "repair"
Gives name rows (Resplit plan random_file) = (name ≡ codes "resplit")
    × (first_of (codes "plan") rows ≡ Some plan.now)
    × (first_of (codes "random-file") rows ≡ Some random_file.now)

-- the text that is found for each id
abbrev pub text_at : List Row → Text → Option Text
text_at rows id = first_of id rows

-- these texts are found for the id of the secret's and for that of the passphrase's
pub record AreFound (secret passphrase : Text) (found : Text → Option Text) (texts : Texts) : Type 0 where
  pub secret_is : text_in texts.secret ≡ found secret
  pub passphrase_is : text_in texts.passphrase ≡ found passphrase

-- something is found for the id
abbrev pub IsGiven : Text → (Text → Option Text) → Type 0
IsGiven id found = (text : Text) × (found id ≡ Some text)

-- a backup is created, and neither a secret nor a file of it is given
abbrev pub LacksSecret : Text → (Text → Option Text) → Type 0
LacksSecret name found = (name ≡ codes "create")
    × (found (codes "master-secret") ≡ None) × (found (codes "master-secret-file") ≡ None)

-- both are given
abbrev pub HasTwoSecrets : (Text → Option Text) → Type 0
HasTwoSecrets found = IsGiven (codes "master-secret") found × IsGiven (codes "master-secret-file") found

-- both a passphrase and a file of it are given
abbrev pub HasTwoPassphrases : (Text → Option Text) → Type 0
HasTwoPassphrases found = IsGiven (codes "passphrase") found × IsGiven (codes "passphrase-file") found

-- a drill is asked both to print fingerprints and to compare with one
abbrev pub HasTwoForms : Text → (Text → Option Text) → Type 0
HasTwoForms name found =
    (name ≡ codes "drill") × IsGiven (codes "expect") found × (found (codes "fingerprint") ≡ Some (flag_text true))

-- the random bytes would come from standard input, which has the mnemonics
abbrev pub HasRandomInput : Text → (Text → Option Text) → Type 0
HasRandomInput name found = (name ≡ codes "resplit") × (found (codes "random-file") ≡ Some (codes "-"))

-- this is the first fault of the values of the command of this name: one of the secret comes before one of the passphrase, this
-- one before one of the form, and that of random bytes comes last
abbrev pub HasBadValues : Text → (Text → Option Text) → BadValues → Type 0
HasBadValues name found NoSecret = LacksSecret name found
HasBadValues name found TwoSecrets = HasTwoSecrets found
HasBadValues name found TwoPassphrases = (LacksSecret name found → ⊥) × (HasTwoSecrets found → ⊥) × HasTwoPassphrases found
HasBadValues name found TwoForms =
    (LacksSecret name found → ⊥) × (HasTwoSecrets found → ⊥) × (HasTwoPassphrases found → ⊥) × HasTwoForms name found
HasBadValues name found RandomInput =
    (LacksSecret name found → ⊥) × (HasTwoSecrets found → ⊥) × (HasTwoPassphrases found → ⊥) × (HasTwoForms name found → ⊥)
    × HasRandomInput name found

-- the last line of a text that refuses values
abbrev pub more_text : Text
more_text = codes "\n\nFor more information, try '--help'.\n"

-- the text that refuses values for this fault
abbrev pub bad_text : BadValues → Text
bad_text NoSecret = codes "error: one of --master-secret <HEX> and --master-secret-file <FILE> is required" ++ more_text
bad_text TwoSecrets = codes "error: --master-secret <HEX> and --master-secret-file <FILE> can't be given together" ++ more_text
bad_text TwoPassphrases = codes "error: --passphrase <TEXT> and --passphrase-file <FILE> can't be given together" ++ more_text
bad_text TwoForms = codes "error: --expect <FINGERPRINT> and --fingerprint can't be given together" ++ more_text
bad_text RandomInput = codes "error: --random-file <FILE> can't be -: standard input has the mnemonics" ++ more_text

-- the words give the command with its values and the files of such, by the definition of a simple command, and its values are sound
abbrev pub GivesCall : List Text → Call → Type 0
GivesCall words call = (name : Text) × (rows : List Row)
    × (subcommand_of shamir_app words ≡ Some (name, rows)) × Gives name rows call.job
    × AreFound (codes "master-secret") (codes "passphrase") (text_at rows) call.given
    × AreFound (codes "master-secret-file") (codes "passphrase-file") (text_at rows) call.files
    × (((bad : BadValues) × HasBadValues name (text_at rows) bad) → ⊥)

-- the words give a command with this fault in its values
abbrev pub GivesBadValues : List Text → BadValues → Type 0
GivesBadValues words bad = (name : Text) × (rows : List Row)
    × (subcommand_of shamir_app words ≡ Some (name, rows)) × HasBadValues name (text_at rows) bad

-- the numbers among a job's values are in their ranges
abbrev pub IsInRange : Job → Type 0
IsInRange (Create plan exponent extendable) = exponent < 2 ^ exponent_bits
IsInRange (Drill after limit form expected) = 1 ≤ limit
IsInRange job = Unit {0}

-- the other job has the values of the first, whose texts may be lent from elsewhere
abbrev pub HaveSameValues : Job → Job → Type 0
HaveSameValues Show other = other ≡ Show
HaveSameValues (Create plan exponent extendable) other = (p : Bor Text) × (other ≡ Create p exponent extendable) × (plan.now ≡ p.now)
HaveSameValues (Recover form expected) other = (e : Option (Bor Text)) × (other ≡ Recover form e) × (text_in expected ≡ text_in e)
HaveSameValues (Drill after limit form expected) other = (a e : Option (Bor Text))
    × (other ≡ Drill a limit form e) × (text_in after ≡ text_in a) × (text_in expected ≡ text_in e)
HaveSameValues Status other = other ≡ Status
HaveSameValues (Reissue plan names) other = (p n : Bor Text) × (other ≡ Reissue p n) × (plan.now ≡ p.now) × (names.now ≡ n.now)
HaveSameValues Repair other = other ≡ Repair
HaveSameValues (Resplit plan file) other = (p f : Bor Text) × (other ≡ Resplit p f) × (plan.now ≡ p.now) × (file.now ≡ f.now)

-- the texts are the same, which may be lent from elsewhere
pub record AreSameTexts (texts other : Texts) : Type 0 where
  pub secret : text_in texts.secret ≡ text_in other.secret
  pub passphrase : text_in texts.passphrase ≡ text_in other.passphrase

-- the calls are of one command, with the same values, and name the same files
pub record AreSameCalls (call other : Call) : Type 0 where
  pub values : HaveSameValues call.job other.job
  pub given : AreSameTexts call.given other.given
  pub files : AreSameTexts call.files other.files

-- the word after the program's name is `help`
abbrev pub SaysHelp : List Text → Type 0
SaysHelp words = slice_get words 1 ≡ Some (codes "help")

-- The words ask for help by `help`: nothing follows it, or one word does, and this word and `--help` in place of both ask for help.
abbrev pub AsksByHelp : List Text → Type 0
AsksByHelp (program ∷ said ∷ []) = said ≡ codes "help"
AsksByHelp (program ∷ said ∷ name ∷ []) =
    (said ≡ codes "help") × (fault_of shamir_app (program ∷ name ∷ codes "--help" ∷ []) ≡ DisplayHelp ∷ [])
AsksByHelp _ = ⊥

-- the words ask for help or for the version: by `help`, or by an option before which nothing is wrong with them; an option for the
-- version is the only word after the program's name
abbrev pub AsksForText : List Text → Type 0
AsksForText words = AsksByHelp words ⊎ ((fault_of shamir_app words ≡ DisplayHelp ∷ [])
    ⊎ ((fault_of shamir_app words ≡ DisplayVersion ∷ []) × (length words ≡ 2)))

-- the answer is a text of help, or that memory ran out
abbrev pub IsHelp : NoJob → Type 0
IsHelp (Help text) = Unit {0}
IsHelp Memory = Unit {0}
IsHelp _ = ⊥

-- the answer is a refusal of the words, or that memory ran out
abbrev pub IsRefusal : NoJob → Type 0
IsRefusal (Refused text) = Unit {0}
IsRefusal Memory = Unit {0}
IsRefusal _ = ⊥

-- the answer is help if words with these faults ask for it and for nothing else, and else a refusal, or that memory ran out
abbrev pub AnswersHelp : NoJob → List ErrorKind → Type 0
AnswersHelp (Help text) faults = faults ≡ DisplayHelp ∷ []
AnswersHelp (Refused text) faults = faults ≢ DisplayHelp ∷ []
AnswersHelp (Values bad) faults = ⊥
AnswersHelp Memory faults = Unit {0}

-- help and the version go to words that ask for them, and a refusal to words that don't and that the
-- definition doesn't take; a fault of values goes to words that it takes
abbrev pub AnswersWords : NoJob → List Text → Type 0
AnswersWords (Help text) words = AsksForText words
AnswersWords (Refused text) words = (takes shamir_app words ≡ false) × (AsksForText words → ⊥)
AnswersWords (Values bad) words = (takes shamir_app words ≡ true) × (AsksForText words → ⊥) × GivesBadValues words bad
AnswersWords Memory words = Unit {0}

-- a text goes with an error that shows help, or that shows the version to two words; a refusal goes with none of these, nor with the
-- error that memory ran out
abbrev pub AnswersKind : NoJob → ErrorKind → ℕ → Type 0
AnswersKind (Help text) kind count = (kind ≡ DisplayHelp) ⊎ ((kind ≡ DisplayVersion) × (count ≡ 2))
AnswersKind (Refused text) kind count =
    (kind ≢ DisplayHelp) × (kind ≡ DisplayVersion → count ≢ 2) × (kind ≢ OutOfMemory)
AnswersKind (Values bad) kind count = ⊥
AnswersKind Memory kind count = Unit {0}
