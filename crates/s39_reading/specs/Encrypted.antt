-- Encrypted secrets, and what decrypts them (SLIP-0039, "Encryption of the master secret"). A pair of parameters and bytes stands
-- for an encrypted secret of a backup with these parameters.
use Rattle.std.specs.Prelude.{◌≡◌, ℕ, List, Option, Result, Ok, Err}
use Rattle.s39_kdf.specs.declared.noted.NotedFingerprint.{NotedFingerprint}
use Rattle.s39_kdf.specs.declared.params.Params.{Params}
use Rattle.s39_kdf.specs.Cipher.{IsEncryption}
use Rattle.s39_kdf.specs.Rounds.{IsUndone}
use Rattle.s39_words.specs.declared.ShareFields.{ShareFields}
use Rattle.s39_backup.specs.Combination.{combination_of}
use Rattle.s39_backup.specs.Outcome.{AreParams}
use Rattle.s39_input.specs.declared.fault.Refusal.TheVariants.{Lack, DigestMismatch, Passphrase, SecretLength}
use Rattle.s39_input.specs.declared.fault.Fault.{Fault}
use Rattle.s39_input.specs.Input.{Input}
use Rattle.s39_input.specs.Fault.{fault_of, fault_of_stop}
use Rattle.s39_input.specs.Accepted.{IsReadAs, IsJudged, IsMeasured}
use Rattle.s39_input.specs.Steps.{Then}
use Rattle.s39_reading.specs.Recover.{IsLeastOrLack, as_expected}

-- The encrypted secret to which the least quorum of the set combines; or the fault: the set has no quorum, or a digest of the
-- least one doesn't match.
abbrev pub IsEncryptedOf : List ShareFields → Result (Params × List ℕ) Fault → Type 0
IsEncryptedOf set =
    Then (IsLeastOrLack set) (λ lack. Err (fault_of (Lack lack))) (λ names.
    Then (λ combined. combination_of set names ≡ combined) (λ mismatch. Err (fault_of (DigestMismatch mismatch))) (λ encrypted result.
    (params : Params) × AreParams set params × (result ≡ Ok (params, encrypted))))

-- The lines of the input are judged first, and then the set of their shares.
abbrev pub IsEncryptedIn : Input → Result (Params × List ℕ) Fault → Type 0
IsEncryptedIn input = Then (IsReadAs input) (λ stop. Err (fault_of_stop stop)) IsEncryptedOf

-- the secret that the passphrase decrypts, or the fault if another fingerprint is expected
abbrev pub IsDecrypted : Option NotedFingerprint → List ℕ → Params × List ℕ → Result (List ℕ) Fault → Type 0
IsDecrypted expected passphrase encrypted result =
    (secret : List ℕ) × IsEncryption secret passphrase encrypted.0 encrypted.1 × (result ≡ as_expected expected secret)

-- The passphrase is judged first, then the number of the encrypted secret's bytes, and at last the secret.
abbrev pub IsDecryption : Option NotedFingerprint → List ℕ → Params × List ℕ → Result (List ℕ) Fault → Type 0
IsDecryption expected passphrase encrypted =
    Then (IsJudged passphrase) (λ bad. Err (fault_of (Passphrase bad))) (λ _.
    Then (IsMeasured encrypted.1) (λ bad. Err (fault_of (SecretLength bad))) (λ _. IsDecrypted expected passphrase encrypted))

-- The passphrase is judged first, then the number of the text's bytes, and at last the round is undone. The text comes with the
-- parameters of its backup.
abbrev pub IsRoundDecryption : ℕ → List ℕ → Params × List ℕ → Result (List ℕ) Fault → Type 0
IsRoundDecryption round passphrase text =
    Then (IsJudged passphrase) (λ bad. Err (fault_of (Passphrase bad))) (λ _.
    Then (IsMeasured text.1) (λ bad. Err (fault_of (SecretLength bad))) (λ _ result.
    (undone : List ℕ) × IsUndone passphrase text.0 round text.1 undone × (result ≡ Ok undone)))
