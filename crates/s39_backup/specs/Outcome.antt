-- What a quorum recovers with a passphrase (SLIP-0039, "Encryption of the master secret").
use Rattle.std.specs.Prelude.{◌≡◌, ℕ, List, [], ◌∷◌, Result, Ok, Err}
use Rattle.s39_kdf.specs.declared.params.Params.{Params}
use Rattle.s39_kdf.specs.Cipher.{IsEncryption}
use Rattle.s39_words.specs.declared.ShareFields.{ShareFields}
use Rattle.s39_set.specs.Names.{Names}
use Rattle.s39_backup.specs.declared.combination.Mismatch.{Mismatch}
use Rattle.s39_backup.specs.Combination.{combination_of}

-- the parameters of the cipher, in which all shares of the set agree
abbrev pub AreParams : List ShareFields → Params → Type 0
AreParams [] params = ⊥
AreParams (share ∷ shares) params =
    (params.id ≡ share.id) × (params.extendable ≡ share.extendable) × (params.exponent ≡ share.exponent)

-- the quorum combines to the encryption of this secret
pub record Recovers (set : List ShareFields) (names : Names) (passphrase secret : List ℕ) : Type 0 where
  pub encrypted : List ℕ
  pub params : Params
  pub combined : combination_of set names ≡ Ok encrypted
  pub params_are : AreParams set params
  pub secret_is : IsEncryption secret passphrase params encrypted

-- what the names of a quorum recover with a passphrase: a secret, or the mismatch to which they combine
abbrev pub IsOutcome : List ShareFields → Names → List ℕ → Result (List ℕ) Mismatch → Type 0
IsOutcome set names passphrase (Ok secret) = Recovers set names passphrase secret
IsOutcome set names passphrase (Err mismatch) = combination_of set names ≡ Err mismatch
