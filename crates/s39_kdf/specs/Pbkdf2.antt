-- PBKDF2 (RFC 8018, section 5.2) as a function on whole lists of bytes. Its pseudorandom function is
-- HMAC-SHA256, so a block has hLen = mac_length bytes.
use Rattle.std.specs.Prelude.{ℕ, zero, suc, ◌+◌, ◌-◌, ◌*◌, ◌/◌, List, [], ◌++◌, take, replicate}
use Rattle.std.specs.Int.{w32, to_be_bytes}
use Rattle.s39_kdf.specs.Bytes.{xor_of}
use Rattle.s39_kdf.specs.Hmac.{mac_length, hmac}

-- the most bytes that this program derives: those of two blocks
abbrev pub longest_derived_key : ℕ
longest_derived_key = 2 * mac_length

-- U_k of block i. U_1 is the HMAC of the salt and INT (i), and each further U_k is that of the U before it.
-- So U_0 is the salt followed by INT (i), which is the block's number as four big-endian bytes.
unfoldable pub iterate : List ℕ → List ℕ → ℕ → ℕ → List ℕ
iterate password salt i zero = salt ++ to_be_bytes w32 i
iterate password salt i (suc k) = hmac password (iterate password salt i k)

-- T_i, block i: U_1 xor U_2 xor .. xor U_c
unfoldable pub block : List ℕ → List ℕ → ℕ → ℕ → List ℕ
block password salt i zero = replicate mac_length 0
block password salt i (suc c) = xor_of (block password salt i c) (iterate password salt i (suc c))

-- T_1 || T_2 || .. || T_l
unfoldable pub blocks : List ℕ → List ℕ → ℕ → ℕ → List ℕ
blocks password salt c zero = []
blocks password salt c (suc l) = blocks password salt c l ++ block password salt (suc l) c

-- the derived key: the first n bytes of T_1 || .. || T_l, where l is the least number of blocks that have n
-- bytes and c is the iteration count
unfoldable pub pbkdf2 : List ℕ → List ℕ → ℕ → ℕ → List ℕ
pbkdf2 password salt c n = take n (blocks password salt c ((n + (mac_length - 1)) / mac_length))
