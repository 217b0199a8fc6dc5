-- Why `create` refuses a passphrase or a secret.
use Rattle.std.proofs.Common.{◌≡◌, ℕ, Bool, true, false, List, length, ap, refl, ◌∙◌, inl, inr, Err}
use Rattle.s39_kdf.specs.declared.limits.BadPassphrase.{BadPassphrase}
use Rattle.s39_kdf.specs.declared.limits.BadSecretLength.{BadSecretLength}
use Rattle.s39_kdf.specs.Limits.{IsFirstUnprintable, IsSecretLength}
use Rattle.s39_backup.specs.declared.create_error.CreateError.TheVariants.{Passphrase as OfPassphrase, SecretLength as OfSecret, BadRandomLength}
use Rattle.s39_input.specs.declared.fault.Refusal.{Refusal}
use Rattle.s39_input.specs.declared.fault.Refusal.TheVariants.{Passphrase, SecretLength}
use Rattle.s39_input.specs.declared.fault.Fault.{Fault}
use Rattle.s39_input.specs.Input.{Input}
use Rattle.s39_input.specs.Fault.{fault_of}
use Rattle.s39_backup.specs.Created.{Asked}
use Rattle.s39_input.specs.Create.{IsCreateOutput, fault_of_creation}
use Rattle.s39_input.proofs.Runs.Causes.{place_is, not_of_passphrase}

abbrev is_secret : Refusal → Bool
is_secret (SecretLength bad) = true
is_secret _ = false

-- a fault of the secret is none of another kind
not_of_secret : (bad : BadSecretLength) (fault : Fault) → fault_of (SecretLength bad) ≡ fault → is_secret fault.refusal ≡ false → ⊥
not_of_secret bad fault is other = let both : true ≡ false = ap (λ (f : Fault). is_secret f.refusal) is ∙ other in absurd (cc)

pub create_cause : (asked : Asked) (input : Input) (text : List ℕ) (bad : BadPassphrase)
    → IsCreateOutput asked input text (Err (fault_of (Passphrase bad))) → IsFirstUnprintable asked.passphrase bad.position
create_cause asked input text bad (none, inl (OfPassphrase other, creates, applies, is)) = place_is asked.passphrase bad other is creates
create_cause asked input text bad (none, inl (OfSecret other, creates, applies, is)) =
    absurd (not_of_passphrase bad (fault_of_creation (OfSecret other)) is refl)
create_cause asked input text bad (none, inl (BadRandomLength needed, creates, applies, is)) =
    absurd (not_of_passphrase bad (fault_of_creation (BadRandomLength needed)) is refl)
create_cause asked input text bad (none, inr (fails, is)) = absurd (not_of_passphrase bad _ is refl)

-- a secret is refused for its length
pub secret_cause : (asked : Asked) (input : Input) (text : List ℕ) (bad : BadSecretLength)
    → IsCreateOutput asked input text (Err (fault_of (SecretLength bad))) → ¬ IsSecretLength (length asked.secret)
secret_cause asked input text bad (none, inl (OfPassphrase other, creates, applies, is)) =
    absurd (not_of_secret bad (fault_of_creation (OfPassphrase other)) is refl)
secret_cause asked input text bad (none, inl (OfSecret other, creates, applies, is)) = creates.1
secret_cause asked input text bad (none, inl (BadRandomLength needed, creates, applies, is)) =
    absurd (not_of_secret bad (fault_of_creation (BadRandomLength needed)) is refl)
secret_cause asked input text bad (none, inr (fails, is)) = absurd (not_of_secret bad _ is refl)
