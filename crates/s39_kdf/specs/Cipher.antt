-- The encryption of a master secret (SLIP-0039, "Encryption of the master secret"): a Feistel network
-- of four rounds, whose round function is PBKDF2-HMAC-SHA256.
use Rattle.std.specs.Prelude.{◌≡◌, ℕ, ◌*◌, ◌^◌, ◌%◌, List, [], ◌∷◌, ◌++◌, length, codes, if◌then◌else◌}
use Rattle.std.specs.Int.{w16, to_be_bytes}
use Rattle.s39_kdf.specs.Bytes.{AreBytes, xor_of}
use Rattle.s39_kdf.specs.Pbkdf2.{pbkdf2}
use Rattle.s39_kdf.specs.declared.params.Params.{Params}

-- what stands before the right half in a round's salt: `shamir` and the identifier as two big-endian
-- bytes, or nothing if the extendable flag is set
abbrev pub salt_prefix : Params → List ℕ
salt_prefix params =
    if params.extendable then [] else codes "shamir" ++ to_be_bytes w16 params.id

-- the iterations of one round
abbrev pub round_iterations : Params → ℕ
round_iterations params = 2500 * 2 ^ params.exponent

-- F (i, R): the round function at round i and the right half R
unfoldable pub round_function : List ℕ → Params → ℕ → List ℕ → List ℕ
round_function passphrase params i right =
    pbkdf2 (i ∷ passphrase) (salt_prefix params ++ right) (round_iterations params) (length right)

-- The secret's halves are h0 and h1. Round i computes h(i+2) from h(i) and h(i+1), and the result is h5
-- followed by h4.
pub record IsEncryption (secret passphrase : List ℕ) (params : Params) (result : List ℕ) : Type 0 where
  pub h0 : List ℕ
  pub h1 : List ℕ
  pub h2 : List ℕ
  pub h3 : List ℕ
  pub h4 : List ℕ
  pub h5 : List ℕ
  pub halves : secret ≡ h0 ++ h1
  pub same_length : length h0 ≡ length h1
  pub round_0 : h2 ≡ xor_of h0 (round_function passphrase params 0 h1)
  pub round_1 : h3 ≡ xor_of h1 (round_function passphrase params 1 h2)
  pub round_2 : h4 ≡ xor_of h2 (round_function passphrase params 2 h3)
  pub round_3 : h5 ≡ xor_of h3 (round_function passphrase params 3 h4)
  pub exchanged : result ≡ h5 ++ h4

-- a byte string is the encryption of at most one secret
abbrev pub EncryptsOneSecret : Type 0
EncryptsOneSecret = (passphrase : List ℕ) (params : Params) (secret other result : List ℕ)
    → IsEncryption secret passphrase params result
    → IsEncryption other passphrase params result
    → secret ≡ other

-- a secret of an even number of bytes has exactly one encryption
abbrev pub SecretsHaveOneEncryption : Type 0
SecretsHaveOneEncryption = (passphrase : List ℕ) (params : Params) (secret : List ℕ)
    → length secret % 2 ≡ 0
    → (result : List ℕ) × IsEncryption secret passphrase params result
    × ((other : List ℕ) → IsEncryption secret passphrase params other → other ≡ result)

-- a byte string of even length is the encryption of exactly one secret
abbrev pub TextsHaveOneSecret : Type 0
TextsHaveOneSecret = (passphrase : List ℕ) (params : Params) (result : List ℕ)
    → length result % 2 ≡ 0
    → (secret : List ℕ) × IsEncryption secret passphrase params result
    × ((other : List ℕ) → IsEncryption other passphrase params result → other ≡ secret)

-- a secret and its encryption have the same length, and if one of them consists of bytes, so does the other
abbrev pub EncryptionKeepsLengthAndBytes : Type 0
EncryptionKeepsLengthAndBytes = (passphrase : List ℕ) (params : Params) (secret result : List ℕ)
    → IsEncryption secret passphrase params result
    → (length result ≡ length secret)
    × (AreBytes secret → AreBytes result)
    × (AreBytes result → AreBytes secret)
