-- Laws of the first byte of a passphrase that isn't printable.
use Rattle.std.specs.Prelude.{◌≡◌, ◌⊎◌, ℕ, List, All}
use Rattle.s39_kdf.specs.Limits.{IsPrintable, IsFirstUnprintable}

-- a passphrase has at most one such byte
abbrev pub PassphrasesHaveOneFirstUnprintable : Type 0
PassphrasesHaveOneFirstUnprintable = (passphrase : List ℕ) (position other : ℕ)
    → IsFirstUnprintable passphrase position
    → IsFirstUnprintable passphrase other
    → position ≡ other

-- a passphrase whose bytes are all printable has none
abbrev pub PrintablePassphrasesHaveNone : Type 0
PrintablePassphrasesHaveNone = (passphrase : List ℕ) (position : ℕ)
    → All IsPrintable passphrase
    → ¬ IsFirstUnprintable passphrase position

-- all bytes of a passphrase are printable, or it has one
abbrev pub PassphrasesArePrintableOrNot : Type 0
PassphrasesArePrintableOrNot = (passphrase : List ℕ)
    → All IsPrintable passphrase ⊎ ((position : ℕ) × IsFirstUnprintable passphrase position)
