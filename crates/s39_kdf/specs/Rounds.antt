-- The rounds of the cipher, undone one by one (SLIP-0039, "Encryption of the master secret").
use Rattle.std.specs.Prelude.{◌≡◌, ℕ, ◌%◌, ◌==◌, List, ◌++◌, length, if◌then◌else◌}
use Rattle.s39_kdf.specs.declared.params.Params.{Params}
use Rattle.s39_kdf.specs.Bytes.{AreBytes, xor_of}
use Rattle.s39_kdf.specs.Cipher.{round_function, IsEncryption}

-- the number of rounds, which are numbered from 0; the last round is undone first
abbrev pub rounds : ℕ
rounds = 4

-- The halves, joined. Once round 0 is undone, and so all rounds are, they are exchanged.
abbrev pub joined_halves : ℕ → List ℕ → List ℕ → List ℕ
joined_halves round left right = if round == 0 then right ++ left else left ++ right

-- A text with the halves a and b gives b and a xor F (i, b) when round i is undone, in the other order for round 0.
pub record IsUndone (passphrase : List ℕ) (params : Params) (round : ℕ) (text undone : List ℕ) : Type 0 where
  pub front : List ℕ
  pub back : List ℕ
  pub halves : text ≡ front ++ back
  pub same_length : length front ≡ length back
  pub joined : undone ≡ joined_halves round back (xor_of front (round_function passphrase params round back))

-- a text of even length gives exactly one text when a round is undone
abbrev pub RoundsHaveOneUndone : Type 0
RoundsHaveOneUndone = (passphrase : List ℕ) (params : Params) (round : ℕ) (text : List ℕ)
    → length text % 2 ≡ 0
    → (undone : List ℕ) × IsUndone passphrase params round text undone
    × ((other : List ℕ) → IsUndone passphrase params round text other → other ≡ undone)

-- a text keeps its length when a round is undone, and bytes stay bytes
abbrev pub UndoingKeepsLengthAndBytes : Type 0
UndoingKeepsLengthAndBytes = (passphrase : List ℕ) (params : Params) (round : ℕ) (text undone : List ℕ)
    → IsUndone passphrase params round text undone
    → (length undone ≡ length text) × (AreBytes text → AreBytes undone)

-- if rounds 3, 2, 1 and 0 are undone, each of what the one before it gave, the last text is the secret whose encryption the first one is
abbrev pub UndoneRoundsDecrypt : Type 0
UndoneRoundsDecrypt = (passphrase : List ℕ) (params : Params) (encrypted third second first secret : List ℕ)
    → IsUndone passphrase params 3 encrypted third
    → IsUndone passphrase params 2 third second
    → IsUndone passphrase params 1 second first
    → IsUndone passphrase params 0 first secret
    → IsEncryption secret passphrase params encrypted
