-- What `shamir_fingerprint` gives.
use Rattle.std.specs.Prelude.{◌≡◌, ◌⊎◌, ℕ, List, length}
use Rattle.hex.specs.Hex.{encode_lower}
use Rattle.s39_kdf.specs.Fingerprint.{fingerprint_of}
use Rattle.s39_kdf.specs.Limits.{IsSecretLength}
use Rattle.s39_c.specs.declared.answer.ShamirAnswer.{ShamirAnswer}
use Rattle.s39_c.specs.Answers.{Gives, length_refused}

-- A secret can't have this number of bytes, and the slice is unchanged; or the fingerprint of the secret, in lower-case digits.
abbrev pub GivesFingerprint : List ℕ → List ℕ → List ℕ → ShamirAnswer → Type 0
GivesFingerprint secret old new answer =
    (¬ IsSecretLength (length secret) × (new ≡ old) × (answer ≡ length_refused (length secret)))
    ⊎ (IsSecretLength (length secret) × Gives (encode_lower (fingerprint_of secret)) old new answer)
