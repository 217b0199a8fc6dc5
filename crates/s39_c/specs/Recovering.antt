-- What `shamir_recover` gives.
use Rattle.std.specs.Prelude.{◌≡◌, ◌≢◌, ℕ, Option, Some, None, List, [], Result, Ok, Err}
use Rattle.s39_input.specs.declared.fault.Fault.{Fault}
use Rattle.s39_kdf.specs.Bytes.{AreBytes}
use Rattle.s39_kdf.specs.Noted.{noted_in}
use Rattle.s39_kdf.specs.declared.noted.BadFingerprint.{BadFingerprint}
use Rattle.s39_kdf.specs.declared.noted.NotedFingerprint.{NotedFingerprint}
use Rattle.s39_kdf.specs.declared.secret_form.SecretForm.TheVariants.{Digits}
use Rattle.s39_reading.specs.Recover.{secret_line}
use Rattle.s39_c.specs.declared.answer.ShamirAnswer.{ShamirAnswer}
use Rattle.s39_c.specs.Answers.{Step, Gives, fingerprint_refused, refused}

-- a recovery with these outputs gives the secret, a list of bytes, whose digits it writes; or it is refused and writes nothing
abbrev pub WritesDigits : (List ℕ → Result (Unit {0}) Fault → Type 0) → Result (List ℕ) Fault → Type 0
WritesDigits IsOutput (Ok secret) = AreBytes secret × IsOutput (secret_line Digits secret) (Ok tt)
WritesDigits IsOutput (Err fault) = IsOutput [] (Err fault)

-- How a recovery with these outputs is answered: by the secret, or by the refusal. After a refusal the slice is as it was.
abbrev pub GivesSecret : (List ℕ → Result (Unit {0}) Fault → Type 0) → List ℕ → List ℕ → ShamirAnswer → Type 0
GivesSecret IsOutput old = Step (WritesDigits IsOutput) refused (λ secret. Gives secret old) old

-- no text stands for no fingerprint, and another text for the one that it writes, if it writes one
abbrev pub IsExpected : List ℕ → Result (Option NotedFingerprint) BadFingerprint → Type 0
IsExpected text (Ok None) = text ≡ []
IsExpected text (Ok (Some noted)) = (text ≢ []) × (noted_in text ≡ Ok noted)
IsExpected text (Err bad) = (text ≢ []) × (noted_in text ≡ Err bad)

-- The first that applies: a text that writes no fingerprint; and then what is given for the fingerprint that is expected, or for
-- none.
abbrev pub GivesExpectedSecret : (Option NotedFingerprint → List ℕ → ShamirAnswer → Type 0) → List ℕ → List ℕ → List ℕ → ShamirAnswer
    → Type 0
GivesExpectedSecret Given text old = Step (IsExpected text) (λ _. fingerprint_refused) Given old
