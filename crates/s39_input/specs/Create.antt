-- The output of `create`.
use Rattle.std.specs.Prelude.{◌≡◌, ◌⊎◌, ℕ, ◌<◌, ◌≤◌, List, [], All, length, true, false, Result, Ok, Err}
use Rattle.std.specs.List.{AllZip, flat_map}
use Rattle.s39_kdf.specs.Limits.{IsPrintable, IsSecretLength}
use Rattle.s39_words.specs.declared.ShareFields.{ShareFields}
use Rattle.s39_words.specs.Printing.{IsPrinted}
use Rattle.s39_backup.specs.declared.create_error.CreateError.{CreateError}
use Rattle.s39_backup.specs.declared.create_error.CreateError.TheVariants.{Passphrase, SecretLength, BadRandomLength}
use Rattle.s39_backup.specs.Created.{Asked, IsCreation, needed_by}
use Rattle.s39_input.specs.declared.fault.DeviceFailure.TheVariants.{Read}
use Rattle.s39_input.specs.declared.fault.Refusal.TheVariants.{Device, Passphrase as PassphraseRefusal, SecretLength as SecretRefusal, RandomLength}
use Rattle.s39_input.specs.declared.fault.Fault.{Fault}
use Rattle.s39_input.specs.Fault.{fault_of}
use Rattle.s39_input.specs.Input.{Input, ended_line}

-- the text has the printed form of each of these shares, one on each line
pub record ArePrintedLines (shares : List ShareFields) (text : List ℕ) : Type 0 where
  pub lines : List (List ℕ)
  pub printed : AllZip IsPrinted lines shares
  pub text_is : text ≡ flat_map ended_line lines

-- the fault of a creation that is refused
abbrev pub fault_of_creation : CreateError → Fault
fault_of_creation (Passphrase bad) = fault_of (PassphraseRefusal bad)
fault_of_creation (SecretLength bad) = fault_of (SecretRefusal bad)
fault_of_creation (BadRandomLength needed) = fault_of (RandomLength needed)

-- The refusal applies. The one for the number of random bytes applies only if the input ended, or if more bytes came
-- than are needed.
abbrev pub Applies : Input → CreateError → Type 0
Applies input (Passphrase _) = Unit {0}
Applies input (SecretLength _) = Unit {0}
Applies input (BadRandomLength needed) = (input.ended ≡ true) ⊎ (needed < length input.bytes)

-- passphrase and secret are accepted, and the input failed before more bytes came than are needed
pub record FailsBefore (asked : Asked) (input : Input) : Type 0 where
  pub failed : input.ended ≡ false
  pub printable : All IsPrintable asked.passphrase
  pub secret_length : IsSecretLength (length asked.secret)
  pub few : length input.bytes ≤ needed_by asked

-- `create` writes this text for the input, whose bytes are the random ones, and gives this answer
abbrev pub IsCreateOutput : Asked → Input → List ℕ → Result (Unit {0}) Fault → Type 0
IsCreateOutput asked input text (Ok _) =
    (shares : List ShareFields) × (input.ended ≡ true) × IsCreation asked input.bytes (Ok shares) × ArePrintedLines shares text
IsCreateOutput asked input text (Err fault) =
    (text ≡ [])
    × (((error : CreateError) × IsCreation asked input.bytes (Err error) × Applies input error × (fault ≡ fault_of_creation error))
    ⊎ (FailsBefore asked input × (fault ≡ fault_of (Device Read))))
