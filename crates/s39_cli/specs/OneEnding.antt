-- How the program ends if files, input and output tell their bytes, and no call of a device fails.
use Rattle.std.specs.Prelude.{◌≡◌, ◌≢◌, ◌++◌, ℕ, Bool, List, Option, Some, None, true}
use Rattle.clap.specs.Words.{Text, takes}
use Rattle.s39_input.specs.Input.{whole}
use Rattle.s39_command.specs.declared.command.Job.{Job}
use Rattle.s39_command.specs.declared.command.Texts.{Texts}
use Rattle.s39_command.specs.Command.{AsksForText, shamir_app}
use Rattle.s39_command.specs.Jobs.{GivesJob}
use Rattle.s39_cli.specs.Ending.{EndsAs, IsDoneWith, IsOutcome, IsTyped}
use Rattle.s39_cli.specs.Outcome.{IsReady}
use Rattle.s39_cli.specs.Values.{Told, text_of}

-- each file holds these bytes, and contracts can name them
abbrev pub telling : (Text → List ℕ) → Told
telling files name = Some (files name)

module _ {R W : Type 0} (remaining : R → Option (List ℕ)) (contents : W → Option (List ℕ)) where
  -- With these words, files and bytes of the input, the program ends with this exit status, which isn't that of a failed device. What the
  -- writer held grows by this output.
  pub record EndsWith (files : Text → List ℕ) (at_terminal : Bool) (words : List Text) (input : List ℕ) (status : ℕ) (output : List ℕ) : Type 0 where
    pub reader : R
    pub writer : W
    pub read_to : R
    pub written_to : W
    pub held : List ℕ
    pub input_is : remaining reader ≡ Some input
    pub held_is : contents writer ≡ Some held
    pub ends : EndsAs (telling files) remaining contents at_terminal words reader writer status read_to written_to
    pub sound : status ≢ 3
    pub output_is : contents written_to ≡ Some (held ++ output)

  -- Words that don't ask for a text end with one exit status and one output, whatever the devices are.
  abbrev pub OneEnding : Type 0
  OneEnding = (files : Text → List ℕ) (at_terminal : Bool) (words : List Text) (input output other : List ℕ) (status another : ℕ)
      → (AsksForText words → ⊥) → EndsWith files at_terminal words input status output → EndsWith files at_terminal words input another other
      → (status ≡ another) × (output ≡ other)

-- what memory holds, as a reader or a writer that is these bytes
abbrev pub in_memory : List ℕ → Option (List ℕ)
in_memory bytes = Some bytes

-- Words that give a job which can be begun end as its outcome says, if nothing is typed that mustn't be. A split anew is done with
-- the random bytes of its file.
abbrev pub SomeEnding : Type 0
SomeEnding = (files : Text → List ℕ) (at_terminal : Bool) (words : List Text) (job : Job) (given : Texts) (secret : Text) (input output : List ℕ) (status : ℕ)
    → takes shamir_app words ≡ true → (AsksForText words → ⊥) → GivesJob words job given → (IsTyped at_terminal job → ⊥)
    → IsDoneWith (telling files) job (text_of None given.secret) secret → IsReady job secret
    → IsOutcome job secret (text_of None given.passphrase) (whole input) output status → status ≢ 3
    → EndsWith in_memory in_memory files at_terminal words input status output
