-- What `shamir_encrypted` and `shamir_decrypt` give.
use Rattle.std.specs.Prelude.{◌≡◌, ℕ, ◌<◌, ◌≤◌, ◌^◌, List, Option, Result, Ok, Err}
use Rattle.s39_kdf.specs.declared.noted.NotedFingerprint.{NotedFingerprint}
use Rattle.s39_kdf.specs.declared.params.Params.{Params}
use Rattle.s39_kdf.specs.Limits.{id_bits, exponent_bits}
use Rattle.s39_words.specs.Share.{flag_bit}
use Rattle.s39_input.specs.declared.fault.Fault.{Fault}
use Rattle.s39_input.specs.Input.{whole}
use Rattle.s39_reading.specs.Encrypted.{IsEncryptedIn}
use Rattle.s39_c.specs.declared.answer.ShamirAnswer.{ShamirAnswer}
use Rattle.s39_c.specs.declared.encrypted.ShamirParameters.{ShamirParameters}
use Rattle.s39_c.specs.Answers.{Step, Gives, filled, out_of_range, refused}
use Rattle.s39_c.specs.Recovering.{GivesExpectedSecret}

-- the numbers of parameters
abbrev pub parameters_of : Params → ShamirParameters
parameters_of params = record { id = params.id; extendable = flag_bit params.extendable; exponent = params.exponent }

-- The parameters of the lines' encrypted secret, and the encrypted secret in a slice, or that it doesn't fit; or the first cause for
-- which there is none, and nothing changes.
abbrev pub GivesEncrypted : List ℕ → ShamirParameters → ShamirParameters → List ℕ → List ℕ → ShamirAnswer → Type 0
GivesEncrypted lines parameters parameters' old =
    Step (λ found. IsEncryptedIn (whole lines) found × (parameters' ≡ filled (λ encrypted. parameters_of encrypted.0) parameters found)) refused
    (λ encrypted. Gives encrypted.1 old) old

-- each number is one that the parameters of a backup can have
abbrev pub AreInRange : ShamirParameters → Type 0
AreInRange parameters =
    (parameters.id < 2 ^ id_bits) × (parameters.extendable ≤ 1) × (parameters.exponent < 2 ^ exponent_bits)

-- the parameters with these numbers, or that one of them is out of its range
abbrev pub AreParameters : ShamirParameters → Result Params (Unit {0}) → Type 0
AreParameters parameters (Ok params) = parameters ≡ parameters_of params
AreParameters parameters (Err _) = ¬ AreInRange parameters

-- the secret that has this result, or the refusal, and then the slice is as it was
abbrev pub GivesDecryption : (Result (List ℕ) Fault → Type 0) → List ℕ → List ℕ → ShamirAnswer → Type 0
GivesDecryption IsResult old = Step IsResult refused (λ secret. Gives secret old) old

-- The first that applies: a number out of its range; and then what is given for the parameters.
abbrev pub GivesDecrypted : ShamirParameters → (Params → Option NotedFingerprint → Result (List ℕ) Fault → Type 0) → List ℕ → List ℕ → List ℕ
    → ShamirAnswer → Type 0
GivesDecrypted parameters IsResult expected old =
    Step (AreParameters parameters) (λ _. out_of_range) (λ params.
    GivesExpectedSecret (λ noted. GivesDecryption (IsResult params noted) old) expected old) old
