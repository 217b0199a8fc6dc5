-- The passphrases and master secrets that are accepted (SLIP-0039, "Passphrase" and "Generating the shares"), and the
-- lengths of the fields on which encryption depends ("Format of the share mnemonic"). The standard requires a secret of
-- at least 128 bits and an even number of bytes; the upper limit is this program's own.
use Rattle.std.specs.Prelude.{◌≡◌, ℕ, ◌-◌, ◌%◌, ◌≤◌, List, length, take, slice_index, All}

-- the fewest bytes of a master secret; a share value is as long as the secret
abbrev pub shortest_secret : ℕ
shortest_secret = 16

-- the most bytes of a master secret, a limit of this program and not of the standard
abbrev pub longest_secret : ℕ
longest_secret = 128

-- the number of bits of an identifier
abbrev pub id_bits : ℕ
id_bits = 15

-- the number of bits of an iteration exponent
abbrev pub exponent_bits : ℕ
exponent_bits = 4

-- a printable character of ASCII
abbrev pub IsPrintable : ℕ → Type 0
IsPrintable byte = (32 ≤ byte) × (byte ≤ 126)

-- this is the position of the first byte that isn't printable, counted from 1
pub record IsFirstUnprintable (bytes : List ℕ) (position : ℕ) : Type 0 where
  pub counted_from_1 : 1 ≤ position
  pub within : position ≤ length bytes
  pub unprintable : ¬ IsPrintable (slice_index bytes (position - 1))
  pub printable_before : All IsPrintable (take (position - 1) bytes)

-- a length in bytes that a master secret may have
abbrev pub IsSecretLength : ℕ → Type 0
IsSecretLength n = (n % 2 ≡ 0) × (shortest_secret ≤ n) × (n ≤ longest_secret)
