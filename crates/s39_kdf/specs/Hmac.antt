-- HMAC-SHA256 (RFC 2104, section 2) as a function on whole lists of bytes. Its hash function H is
-- SHA-256.
use Rattle.std.specs.Prelude.{ℕ, ◌-◌, List, ◌++◌, length, map, replicate, nat_lt, if◌then◌else◌, bit_xor}
use Rattle.sha2.specs.Sha256.{sha256}

-- B, the number of bytes of a block of SHA-256
abbrev pub block_length : ℕ
block_length = 64

-- L, the number of bytes of a digest of SHA-256, and so of an HMAC
abbrev pub mac_length : ℕ
mac_length = 32

-- the key, or its digest if it is longer than a block
abbrev pub short_key : List ℕ → List ℕ
short_key key = if nat_lt block_length (length key) then sha256 key else key

-- the key with zero bytes appended up to the length of a block: the K of the standard
abbrev pub block_key : List ℕ → List ℕ
block_key key = short_key key ++ replicate (block_length - length (short_key key)) 0

-- each byte of a list xored with the byte of a pad
abbrev pub padded_with : ℕ → List ℕ → List ℕ
padded_with pad bytes = map (λ byte. bit_xor byte pad) bytes

-- K xor ipad
abbrev pub inner_pad : List ℕ → List ℕ
inner_pad key = padded_with 0x36 (block_key key)

-- K xor opad
abbrev pub outer_pad : List ℕ → List ℕ
outer_pad key = padded_with 0x5C (block_key key)

-- H (K xor opad, H (K xor ipad, message))
unfoldable pub hmac : List ℕ → List ℕ → List ℕ
hmac key message = sha256 (outer_pad key ++ sha256 (inner_pad key ++ message))
