-- The output of `resplit`, and the mnemonics of a new backup of an encrypted secret.
use Rattle.std.specs.Prelude.{◌≡◌, ◌≢◌, ℕ, List, [], length, All, true, false, Result, Ok, Err}
use Rattle.s39_kdf.specs.declared.params.Params.{Params}
use Rattle.s39_words.specs.declared.ShareFields.{ShareFields}
use Rattle.s39_set.specs.Lack.{IsLack}
use Rattle.s39_backup.specs.declared.plan.Members.{Members}
use Rattle.s39_backup.specs.Created.{Asked, asked_for, needed_by}
use Rattle.s39_backup.specs.Resplit.{gives_identifier, IsCreationFromEncrypted, IsResplit}
use Rattle.s39_input.specs.declared.fault.Refusal.{Refusal}
use Rattle.s39_input.specs.declared.fault.Refusal.TheVariants.{Lack, SecretLength, NotExtendable, RandomLength, SameIdentifier}
use Rattle.s39_input.specs.declared.fault.Fault.{Fault}
use Rattle.s39_input.specs.Input.{Input, whole}
use Rattle.s39_input.specs.Fault.{fault_of, fault_of_stop, fault_of_resplit}
use Rattle.s39_input.specs.Accepted.{IsReadAs, IsMeasured}
use Rattle.s39_input.specs.Create.{IsCreateOutput}
use Rattle.s39_input.specs.OfBackup.{HoldsMnemonicsOf}
use Rattle.s39_input.specs.Steps.{Then}
use Rattle.s39_creating.specs.Reissue.{AreWritten}

-- the shares of the new backup, which the plan and the random bytes give for a set; or the fault
abbrev pub IsSplitOf : ℕ → List Members → List ℕ → List ShareFields → Result (List ShareFields) Fault → Type 0
IsSplitOf group_threshold groups random set =
    Then (IsResplit set group_threshold groups random) (λ error. Err (fault_of_resplit error)) (λ shares result. result ≡ Ok shares)

-- The shares of the new backup for an input, or the fault. The lines of the input are judged first, and then the set of
-- their shares.
abbrev pub IsSplitFrom : ℕ → List Members → List ℕ → Input → Result (List ShareFields) Fault → Type 0
IsSplitFrom group_threshold groups random input =
    Then (IsReadAs input) (λ stop. Err (fault_of_stop stop)) (IsSplitOf group_threshold groups random)

-- `resplit` writes this text for the plan, the random bytes and the input, and gives this answer
abbrev pub IsResplitOutput : ℕ → List Members → List ℕ → Input → List ℕ → Result (Unit {0}) Fault → Type 0
IsResplitOutput group_threshold groups random input text answer =
    (result : Result (List ShareFields) Fault) × IsSplitFrom group_threshold groups random input result × AreWritten result text answer

-- ---- an encrypted secret

-- The shares of a new backup of an encrypted secret with its parameters, which the plan and the random bytes give; or the fault.
-- The number of its bytes is judged first.
abbrev pub AreFromEncrypted : ℕ → List Members → List ℕ → Params × List ℕ → Result (List ShareFields) Fault → Type 0
AreFromEncrypted group_threshold groups random encrypted =
    Then (IsMeasured encrypted.1) (λ bad. Err (fault_of (SecretLength bad))) (λ _.
    Then (IsCreationFromEncrypted encrypted.0 group_threshold groups random encrypted.1) (λ error. Err (fault_of_resplit error))
    (λ shares result. result ≡ Ok shares))

-- this text has the mnemonics of these shares, and this is the answer
abbrev pub IsOutputFromEncrypted : ℕ → List Members → List ℕ → Params × List ℕ → List ℕ → Result (Unit {0}) Fault → Type 0
IsOutputFromEncrypted group_threshold groups random encrypted text answer =
    (result : Result (List ShareFields) Fault) × AreFromEncrypted group_threshold groups random encrypted result × AreWritten result text answer

-- ---- mnemonics of a created backup

module _ (set : List ShareFields) (asked : Asked) (random : List ℕ) where
  -- This is why nothing is written: the set has no quorum; the backup that was asked for isn't extendable, or takes another
  -- number of random bytes; or these give the identifier that the shares at hand have.
  abbrev pub Hinders : Refusal → Type 0
  Hinders (Lack lack) = IsLack set lack
  Hinders NotExtendable = asked.options.extendable ≡ false
  Hinders (RandomLength needed) = (needed ≡ needed_by asked) × (length random ≢ needed)
  Hinders SameIdentifier = All (λ share. gives_identifier random share.id ≡ true) set
  Hinders _ = ⊥

  -- what `create` writes for these random bytes is written; or nothing, and the answer is why
  abbrev pub WritesCreatedOrCause : List ℕ → Result (Unit {0}) Fault → Type 0
  WritesCreatedOrCause text (Ok _) = IsCreateOutput asked (whole random) text (Ok tt)
  WritesCreatedOrCause text (Err fault) = (text ≡ []) × (fault ≡ fault_of fault.refusal) × Hinders fault.refusal

-- This holds for the set of the input's shares, if the input holds mnemonics of a created backup. The new backup is one of
-- its secret, with its passphrase and options.
abbrev pub ResplitsCreated : ℕ → List Members → List ℕ → Input → List ℕ → Result (Unit {0}) Fault → Type 0
ResplitsCreated group_threshold groups random input text answer =
    (passphrase secret : List ℕ) (mnemonics : HoldsMnemonicsOf passphrase secret input)
    → (set : List ShareFields) × IsReadAs input (Ok set)
    × WritesCreatedOrCause set (asked_for secret passphrase group_threshold groups mnemonics.options) random text answer
