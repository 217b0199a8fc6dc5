-- Which call the words of a command give, by what is given to it.
use Rattle.std.specs.Prelude.{◌≡◌, List, [], codes, Option, Some, None, unwrap_or}
use Rattle.clap.specs.Words.{Text}
use Rattle.s39_clap.specs.Arguments.{Given, given_for}
use Rattle.s39_kdf.specs.declared.secret_form.SecretForm.{SecretForm}
use Rattle.s39_kdf.specs.declared.secret_form.SecretForm.TheVariants.{Digits, Fingerprint, Expected}
use Rattle.s39_command.specs.declared.command.BadValues.{BadValues}
use Rattle.s39_command.specs.declared.command.Call.{Call}
use Rattle.s39_command.specs.declared.command.Job.{Job}
use Rattle.s39_command.specs.declared.command.Job.TheVariants.{Show, Create, Recover, Drill, Status, Reissue, Repair, Resplit}
use Rattle.s39_command.specs.declared.command.Texts.{Texts}
use Rattle.s39_command.specs.Command.{AreFound, GivesBadValues, GivesCall, HasBadValues, flag_text, text_in}
use Rattle.s39_command.specs.Words.{AreWords, number_in}

-- a passphrase that isn't given is the empty one
abbrev pub or_empty : Option Text → Text
or_empty passphrase = unwrap_or passphrase []

-- the words give this job and these texts of values, and name no file of a value
abbrev pub GivesJob : List Text → Job → Texts → Type 0
GivesJob words job given = GivesCall words (record {
  job = job;
  given = given;
  files = record { secret = None; passphrase = None };
})

-- the text that is given for the argument of this name, or else this one
abbrev pub text_or : List Given → Text → Text → Text
text_or given name default = unwrap_or (given_for given name) default

-- the form in which a secret is asked for: its digits without the flag `--fingerprint`, and its fingerprint with it
abbrev pub IsAskedIn : List Given → SecretForm → Type 0
IsAskedIn given Digits = text_or given (codes "fingerprint") (codes "false") ≡ codes "false"
IsAskedIn given Fingerprint = text_or given (codes "fingerprint") (codes "false") ≡ codes "true"
IsAskedIn given (Expected noted) = ⊥

-- what is given asks the command of this name for the job; without a limit it is 1000, and without an exponent 0
abbrev pub AsksFor : Text → List Given → Job → Type 0
AsksFor name given Show = name ≡ codes "show"
AsksFor name given (Create plan exponent extendable) = (name ≡ codes "create")
    × (given_for given (codes "plan") ≡ Some plan.now) × (exponent ≡ number_in (text_or given (codes "exponent") (codes "0")))
    × (text_or given (codes "extendable") (codes "false") ≡ flag_text extendable)
AsksFor name given (Recover form expected) =
    (name ≡ codes "recover") × IsAskedIn given form × (text_in expected ≡ given_for given (codes "expect"))
AsksFor name given (Drill after limit form expected) = (name ≡ codes "drill")
    × (text_in after ≡ given_for given (codes "after")) × (limit ≡ number_in (text_or given (codes "limit") (codes "1000")))
    × IsAskedIn given form × (text_in expected ≡ given_for given (codes "expect"))
AsksFor name given Status = name ≡ codes "status"
AsksFor name given (Reissue plan names) = (name ≡ codes "reissue")
    × (given_for given (codes "plan") ≡ Some plan.now) × (given_for given (codes "names") ≡ Some names.now)
AsksFor name given Repair = name ≡ codes "repair"
AsksFor name given (Resplit plan random_file) = (name ≡ codes "resplit")
    × (given_for given (codes "plan") ≡ Some plan.now) × (given_for given (codes "random-file") ≡ Some random_file.now)

-- it asks for the job with these values, and with these files of values
pub record AsksForCall (name : Text) (given : List Given) (call : Call) : Type 0 where
  pub job : AsksFor name given call.job
  pub values : AreFound (codes "master-secret") (codes "passphrase") (given_for given) call.given
  pub files : AreFound (codes "master-secret-file") (codes "passphrase-file") (given_for given) call.files
  pub sound : ((bad : BadValues) × HasBadValues name (given_for given) bad) → ⊥

-- the words of a command give the call that is asked for, whatever the order of its arguments is
abbrev pub WordsGive : Type 0
WordsGive = (name : Text) (given : List Given) (words : List Text) (call : Call) → AreWords name given words → AsksForCall name given call
    → GivesCall words call

-- or the fault of the values that are given
abbrev pub WordsGiveFaults : Type 0
WordsGiveFaults = (name : Text) (given : List Given) (words : List Text) (bad : BadValues) → AreWords name given words
    → HasBadValues name (given_for given) bad → GivesBadValues words bad
