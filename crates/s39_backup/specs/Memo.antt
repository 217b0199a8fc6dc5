-- Deciphered secrets that are kept.
use Rattle.std.specs.Prelude.{ℕ, ◌-◌, List, All, drop, length, map}
use Rattle.s39_kdf.specs.declared.params.Params.{Params}
use Rattle.s39_kdf.specs.Cipher.{IsEncryption}
use Rattle.s39_backup.specs.declared.memo.Deciphered.{Deciphered}

-- how many secrets a memo keeps at most
abbrev pub most_kept : ℕ
most_kept = 4

-- the last of these, at most as many as are kept
abbrev pub newest : List (List ℕ × List ℕ) → List (List ℕ × List ℕ)
newest kept = drop (length kept - most_kept) kept

-- each encrypted value stands with the secret whose encryption it is
abbrev pub AreDeciphered : List ℕ → Params → List (List ℕ × List ℕ) → Type 0
AreDeciphered passphrase params kept = All (λ entry. IsEncryption entry.1 passphrase params entry.0) kept

-- A memo has a passphrase and parameters. It counts the values that it deciphered, and keeps the last of them, each
-- with its secret, oldest first.
pub record MemoState : Type 0 where
  pub passphrase : List ℕ
  pub params : Params
  pub made : ℕ
  pub kept : List (List ℕ × List ℕ)

-- what the code keeps, as pairs
abbrev pub entries_of : List Deciphered → List (List ℕ × List ℕ)
entries_of kept = map (λ entry. (entry.encrypted.items, entry.secret.items)) kept
