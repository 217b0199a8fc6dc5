-- The output of `recover`.
use Rattle.std.specs.Prelude.{◌≡◌, ◌⊎◌, ℕ, List, [], Bool, true, false, not, if◌then◌else◌, Option, Some, None, Result, Ok, Err}
use Rattle.s39_kdf.specs.declared.noted.NotedFingerprint.{NotedFingerprint}
use Rattle.s39_kdf.specs.Noted.{has_fingerprint}
use Rattle.s39_words.specs.declared.ShareFields.{ShareFields}
use Rattle.s39_set.specs.Names.{Names}
use Rattle.s39_set.specs.declared.set_lack.SetLack.{SetLack}
use Rattle.s39_set.specs.Quorums.{IsQuorum, IsLeastQuorum}
use Rattle.s39_set.specs.Lack.{IsLack}
use Rattle.s39_backup.specs.Outcome.{IsOutcome}
use Rattle.s39_input.specs.declared.fault.Refusal.TheVariants.{Lack, DigestMismatch, OtherSecret}
use Rattle.s39_input.specs.declared.fault.Fault.{Fault}
use Rattle.s39_kdf.specs.declared.secret_form.SecretForm.{SecretForm}
use Rattle.s39_input.specs.Input.{Input, ended_line}
use Rattle.s39_input.specs.Fault.{fault_of}
use Rattle.s39_input.specs.Accepted.{IsReadAs, IsCheckedSet}
use Rattle.s39_input.specs.OfBackup.{HoldsMnemonicsOf}
use Rattle.s39_input.specs.SecretForm.{secret_in}
use Rattle.s39_input.specs.Steps.{Then, nothing_for}

-- the line that shows a secret in this form
abbrev pub secret_line : SecretForm → List ℕ → List ℕ
secret_line form secret = ended_line (secret_in form secret)

-- the least quorum of the set, or why it has none
abbrev pub IsLeastOrLack : List ShareFields → Result (Names) SetLack → Type 0
IsLeastOrLack set (Ok names) = IsLeastQuorum set names
IsLeastOrLack set (Err lack) = IsLack set lack

-- another fingerprint is expected than that of the secret
abbrev pub is_other_than : Option NotedFingerprint → List ℕ → Bool
is_other_than None secret = false
is_other_than (Some noted) secret = not (has_fingerprint noted secret)

-- the secret, or the fault if another fingerprint is expected
abbrev pub as_expected : Option NotedFingerprint → List ℕ → Result (List ℕ) Fault
as_expected expected secret = if is_other_than expected secret then Err (fault_of OtherSecret) else Ok secret

-- The secret that the least quorum of the set recovers; or the fault: the set has no quorum, or a digest of the least
-- one doesn't match, or another fingerprint is expected.
abbrev pub IsRecovered : Option NotedFingerprint → List ℕ → List ShareFields → Result (List ℕ) Fault → Type 0
IsRecovered expected passphrase set =
    Then (IsLeastOrLack set) (λ lack. Err (fault_of (Lack lack))) (λ names.
    Then (IsOutcome set names passphrase) (λ mismatch. Err (fault_of (DigestMismatch mismatch))) (λ secret result. result ≡ as_expected expected secret))

-- the line of the secret is written; or nothing, and the fault is answered
abbrev pub WritesSecret : SecretForm → Option NotedFingerprint → List ℕ → List ShareFields → List ℕ × Result (Unit {0}) Fault → Type 0
WritesSecret form expected passphrase set =
    Then (IsRecovered expected passphrase set) nothing_for (λ secret written. written ≡ (secret_line form secret, Ok tt))

-- `recover` writes this text for the form of the secret, the fingerprint that is expected (if one is), the passphrase and
-- the input, and gives this answer. It judges the passphrase first, then the lines of the input, then the set of their
-- shares, and at last the secret.
abbrev pub IsRecoverOutput : SecretForm → Option NotedFingerprint → List ℕ → Input → List ℕ → Result (Unit {0}) Fault → Type 0
IsRecoverOutput form expected passphrase input text answer =
    Then (IsCheckedSet passphrase input) nothing_for (WritesSecret form expected passphrase) (text, answer)

-- why the secret isn't written: the set has no quorum, or it has one, and another fingerprint is expected
abbrev pub IsUnwritten : Option NotedFingerprint → List ShareFields → List ℕ → Fault → Type 0
IsUnwritten expected set secret fault =
    ((lack : SetLack) × IsLack set lack × (fault ≡ fault_of (Lack lack)))
    ⊎ (((names : Names) × IsQuorum set names) × (is_other_than expected secret ≡ true) × (fault ≡ fault_of OtherSecret))

-- the line of the secret is written if the set has a quorum, and no other fingerprint is expected; otherwise nothing is
-- written, and the answer is which of these conditions fails
abbrev pub IsSecretOrCause : SecretForm → Option NotedFingerprint → List ShareFields → List ℕ → List ℕ → Result (Unit {0}) Fault → Type 0
IsSecretOrCause form expected set secret text (Ok _) =
    ((names : Names) × IsQuorum set names) × (is_other_than expected secret ≡ false) × (text ≡ secret_line form secret)
IsSecretOrCause form expected set secret text (Err fault) = (text ≡ []) × IsUnwritten expected set secret fault

-- This holds for the set of the input's shares, if the input holds mnemonics of a backup that was created with this
-- passphrase.
abbrev pub RecoversCreated : SecretForm → Option NotedFingerprint → List ℕ → Input → List ℕ → Result (Unit {0}) Fault → Type 0
RecoversCreated form expected passphrase input text answer =
    (secret : List ℕ) → HoldsMnemonicsOf passphrase secret input
    → (set : List ShareFields) × IsReadAs input (Ok set) × IsSecretOrCause form expected set secret text answer
