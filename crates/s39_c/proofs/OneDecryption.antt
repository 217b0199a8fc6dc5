-- An encrypted secret, and what is decrypted from one, are given in one way, and there is such a way.
use Rattle.std.proofs.Common.{◌≡◌, ◌≢◌, ℕ, ◌≤◌, ◌^◌, Bool, true, false, List, [], ◌∷◌, length, refl, sym, ap, ◌∙◌, subst, inl, inr, arith}
use Rattle.std.proofs.Common.{Option, Some, None, Result, Ok, Err}
use Rattle.std.proofs.lemmas.Bool.{cases_lt}
use Rattle.s39_kdf.specs.Limits.{id_bits, exponent_bits}
use Rattle.s39_kdf.specs.Noted.{noted_in}
use Rattle.s39_kdf.specs.declared.noted.BadFingerprint.{BadFingerprint}
use Rattle.s39_kdf.specs.declared.noted.NotedFingerprint.{NotedFingerprint}
use Rattle.s39_kdf.specs.declared.params.Params.{Params}
use Rattle.s39_words.specs.Share.{flag_bit}
use Rattle.s39_backup.proofs.OneRecovery.{same_params}
use Rattle.s39_input.proofs.Steps.{AtMostOne, AtLeastOne}
use Rattle.s39_input.specs.Input.{Input, whole}
use Rattle.s39_input.specs.declared.fault.Fault.{Fault}
use Rattle.s39_reading.specs.Encrypted.{IsEncryptedIn, IsDecryption}
use Rattle.s39_c.specs.declared.answer.ShamirAnswer.{ShamirAnswer}
use Rattle.s39_c.specs.declared.encrypted.ShamirParameters.{ShamirParameters}
use Rattle.s39_c.specs.Answers.{done, out_of_range, fingerprint_refused, refused}
use Rattle.s39_c.specs.Recovering.{IsExpected}
use Rattle.s39_c.specs.Encrypted.{parameters_of, AreInRange, AreParameters, GivesEncrypted, GivesDecrypted, GivesDecryption}
use Rattle.s39_c.proofs.InSteps.{Once, Given, gives_as_once, gives_as_some, step_once, step_some, filled_once, filled_some}
use Rattle.s39_c.proofs.OneAnswer.{flag_bit_once, flag_bit_low}
use Rattle.s39_c.proofs.OneSecret.{expected_secret_once}

-- ---- an encrypted secret

pub encrypted_once : ((input : Input) → AtMostOne (IsEncryptedIn input)) → (lines : List ℕ) (before after also : ShamirParameters)
    (old new other : List ℕ) (answer another : ShamirAnswer) → GivesEncrypted lines before after old new answer
    → GivesEncrypted lines before also old other another → (after ≡ also) × (new ≡ other) × (answer ≡ another)
encrypted_once one lines before after also old =
    filled_once (IsEncryptedIn (whole lines)) refused _ old (λ encrypted. parameters_of encrypted.0) before (one (whole lines))
    (λ encrypted _. gives_as_once (done (length encrypted.1)) encrypted.1 old) after also

pub encrypted_some : ((input : Input) → AtLeastOne (IsEncryptedIn input)) → (lines : List ℕ) (before : ShamirParameters) (old : List ℕ)
    → (after : ShamirParameters) × (new : List ℕ) × (answer : ShamirAnswer) × GivesEncrypted lines before after old new answer
encrypted_some some lines before old =
    filled_some (IsEncryptedIn (whole lines)) refused _ old (λ encrypted. parameters_of encrypted.0) before (some (whole lines))
    (λ encrypted _. gives_as_some (done (length encrypted.1)) encrypted.1 old)

-- ---- parameters

abbrev numbers : ℕ → ℕ → ℕ → ShamirParameters
numbers id extendable exponent = record { id = id; extendable = extendable; exponent = exponent }

of_params : (params : Params) → AreInRange (parameters_of params)
of_params params = (params.id_in_range, flag_bit_low params.extendable, params.exponent_in_range)

pub parameters_once : (parameters : ShamirParameters) → AtMostOne (AreParameters parameters)
parameters_once parameters (Ok p) (Ok q) is also =
    let same : parameters_of p ≡ parameters_of q = sym is ∙ also in
    ap Ok (same_params p q (ap (λ (r : ShamirParameters). r.id) same)
    (flag_bit_once p.extendable q.extendable (ap (λ (r : ShamirParameters). r.extendable) same)) (ap (λ (r : ShamirParameters). r.exponent) same))
parameters_once parameters (Ok p) (Err bad) is none = absurd (none (subst AreInRange (sym is) (of_params p)))
parameters_once parameters (Err bad) (Ok p) none is = absurd (none (subst AreInRange (sym is) (of_params p)))
parameters_once parameters (Err bad) (Err other) none also = refl

flag_of : (n : ℕ) → n ≤ 1 → (flag : Bool) × (flag_bit flag ≡ n)
flag_of n low = elim (cases_lt 0 n) [ inl one ↦ (true, omega (arith, one, low)) | inr none ↦ (false, omega (arith, none)) ]

pub parameters_some : (parameters : ShamirParameters) → AtLeastOne (AreParameters parameters)
parameters_some parameters =
    elim (cases_lt parameters.id (2 ^ id_bits)) [
      | inr high ↦ (Err tt, λ is. let low = is.0 in omega (arith, high, low))
      | inl id ↦ elim (cases_lt 1 parameters.extendable) [
        | inl high ↦ (Err tt, λ is. let low = is.1 in omega (arith, high, low))
        | inr low ↦ elim (cases_lt parameters.exponent (2 ^ exponent_bits)) [
          | inr high ↦ (Err tt, λ is. let within = is.2 in omega (arith, high, within))
          | inl exponent ↦ (
              let (flag, is) = flag_of parameters.extendable low in
              let params : Params =
              record { id = parameters.id; extendable = flag; exponent = parameters.exponent; id_in_range = id; exponent_in_range = exponent } in
              (Ok params, ap (λ (bit : ℕ). numbers parameters.id bit parameters.exponent) (sym is)))
        ]
      ]
    ]

-- ---- a decryption

expected_of : (text : List ℕ) → text ≢ [] → (read : Result NotedFingerprint BadFingerprint) → noted_in text ≡ read → AtLeastOne (IsExpected text)
expected_of text some (Ok noted) is = (Ok (Some noted), (some, is))
expected_of text some (Err bad) is = (Err bad, (some, is))

expected_some : (text : List ℕ) → AtLeastOne (IsExpected text)
expected_some [] = (Ok None, refl)
expected_some (byte ∷ bytes) = expected_of (byte ∷ bytes) (λ none. cc) (noted_in (byte ∷ bytes)) refl

module _ (parameters : ShamirParameters) (passphrase encrypted digits old : List ℕ) where
  abbrev Decrypted : List ℕ → ShamirAnswer → Type 0
  Decrypted = GivesDecrypted parameters (λ params noted. IsDecryption noted passphrase (params, encrypted)) digits old

  abbrev Is : Params → Option NotedFingerprint → Result (List ℕ) Fault → Type 0
  Is params noted = IsDecryption noted passphrase (params, encrypted)

  pub decrypted_once : ((expected : Option NotedFingerprint) (key : List ℕ) (pair : Params × List ℕ) → AtMostOne (IsDecryption expected key pair))
      → Once Decrypted
  decrypted_once one =
      step_once (AreParameters parameters) (λ _. out_of_range) _ old (parameters_once parameters)
      (λ params _. expected_secret_once (λ noted. GivesDecryption (Is params noted) old)
      (λ noted. step_once (Is params noted) refused _ old (one noted passphrase (params, encrypted))
      (λ secret _. gives_as_once (done (length secret)) secret old)) digits old)

  pub decrypted_some : ((expected : Option NotedFingerprint) (key : List ℕ) (pair : Params × List ℕ) → AtLeastOne (IsDecryption expected key pair))
      → Given Decrypted
  decrypted_some some =
      step_some (AreParameters parameters) (λ _. out_of_range) _ old (parameters_some parameters)
      (λ params _. step_some (IsExpected digits) (λ _. fingerprint_refused) _ old (expected_some digits)
      (λ noted _. step_some (Is params noted) refused _ old (some noted passphrase (params, encrypted))
      (λ secret _. gives_as_some (done (length secret)) secret old)))
