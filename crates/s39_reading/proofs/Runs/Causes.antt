-- Why `recover` refuses a passphrase.
use Rattle.std.proofs.Common.{◌≡◌, ℕ, false, List, [], refl, Option, Err}
use Rattle.s39_kdf.specs.declared.limits.BadPassphrase.{BadPassphrase}
use Rattle.s39_kdf.specs.Limits.{IsFirstUnprintable}
use Rattle.s39_kdf.specs.declared.noted.NotedFingerprint.{NotedFingerprint}
use Rattle.s39_kdf.specs.declared.secret_form.SecretForm.{SecretForm}
use Rattle.s39_input.specs.declared.fault.Refusal.TheVariants.{Passphrase}
use Rattle.s39_input.specs.Input.{Input}
use Rattle.s39_input.specs.Fault.{fault_of}
use Rattle.s39_input.specs.Steps.{gives, refuses}
use Rattle.s39_reading.specs.Recover.{secret_line, IsRecoverOutput}
use Rattle.s39_reading.proofs.Runs.Recovering.{recovered_fault}
use Rattle.s39_input.proofs.Runs.Causes.{is_passphrase, not_of_passphrase, checked_cause, fault_is, not_done}

pub recover_cause : (form : SecretForm) (expected : Option NotedFingerprint) (passphrase : List ℕ) (input : Input) (text : List ℕ) (bad : BadPassphrase)
    → IsRecoverOutput form expected passphrase input text (Err (fault_of (Passphrase bad))) → IsFirstUnprintable passphrase bad.position
recover_cause form expected passphrase input text bad (refuses fault checked is) =
    checked_cause passphrase input bad fault checked (fault_is {T = Unit {0}} text [] (fault_of (Passphrase bad)) fault is)
recover_cause form expected passphrase input text bad (gives set checked (gives secret so is)) =
    absurd (not_done {T = Unit {0}} text (secret_line form secret) (fault_of (Passphrase bad)) tt is)
recover_cause form expected passphrase input text bad (gives set checked (refuses fault so is)) =
    absurd (not_of_passphrase bad fault (fault_is {T = Unit {0}} text [] (fault_of (Passphrase bad)) fault is)
    (recovered_fault (λ f. is_passphrase f.refusal ≡ false) (λ lack. refl) (λ mismatch. refl) refl expected passphrase set fault so))
