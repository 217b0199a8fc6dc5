-- Which fault of the values is told.
use Rattle.std.specs.Prelude.{◌≡◌, ◌≤◌, ℕ, List, Option}
use Rattle.clap.specs.Words.{Text}
use Rattle.s39_command.specs.declared.command.Call.{Call}
use Rattle.s39_command.specs.declared.command.BadValues.{BadValues}
use Rattle.s39_command.specs.declared.command.BadValues.TheVariants.{NoSecret, TwoSecrets, TwoPassphrases, TwoForms, RandomInput}
use Rattle.s39_command.specs.Command.{GivesBadValues, GivesCall, HasBadValues, HasRandomInput, HasTwoForms, HasTwoPassphrases, HasTwoSecrets, LacksSecret}

-- the values of the command of this name have this fault, whatever else is wrong with them
abbrev pub HasFault : Text → (Text → Option Text) → BadValues → Type 0
HasFault name found NoSecret = LacksSecret name found
HasFault name found TwoSecrets = HasTwoSecrets found
HasFault name found TwoPassphrases = HasTwoPassphrases found
HasFault name found TwoForms = HasTwoForms name found
HasFault name found RandomInput = HasRandomInput name found

-- the place of a fault in the order in which faults are told: the secret's, the passphrase's, that of the form, and that of random
-- bytes
abbrev pub place_of : BadValues → ℕ
place_of NoSecret = 0
place_of TwoSecrets = 0
place_of TwoPassphrases = 1
place_of TwoForms = 2
place_of RandomInput = 3

-- the fault that is told is one of the values, and none of theirs has an earlier place
abbrev pub FirstFault : Type 0
FirstFault = (name : Text) (found : Text → Option Text) (bad : BadValues) → HasBadValues name found bad
    → HasFault name found bad × ((other : BadValues) → HasFault name found other → place_of bad ≤ place_of other)

-- of values with a fault, one is told
abbrev pub SomeFault : Type 0
SomeFault = (name : Text) (found : Text → Option Text) (fault : BadValues) → HasFault name found fault → (bad : BadValues) × HasBadValues name found bad

-- words with a fault in their values have one that is told, and give no call, whatever the call's values are
pub record OneFault : Type 0 where
  pub once : (words : List Text) (bad other : BadValues) → GivesBadValues words bad → GivesBadValues words other → bad ≡ other
  pub no_call : (words : List Text) (bad : BadValues) (call : Call) → GivesBadValues words bad → GivesCall words call → ⊥
