-- HMAC-SHA512 (RFC 2104, section 2) as a function on whole lists of bytes. Its hash function H is
-- SHA-512.
use Rattle.std.specs.Prelude.{ℕ, ◌-◌, List, ◌++◌, length, replicate, nat_lt, if◌then◌else◌}
use Rattle.sha2.specs.Sha512.{sha512}
use Rattle.s39_kdf.specs.Hmac.{padded_with}

-- B, the number of bytes of a block of SHA-512
abbrev pub block_length : ℕ
block_length = 128

-- the key, or its digest if it is longer than a block
abbrev pub short_key : List ℕ → List ℕ
short_key key = if nat_lt block_length (length key) then sha512 key else key

-- the key with zero bytes appended up to the length of a block: the K of the standard
abbrev pub block_key : List ℕ → List ℕ
block_key key = short_key key ++ replicate (block_length - length (short_key key)) 0

-- K xor ipad
abbrev pub inner_pad : List ℕ → List ℕ
inner_pad key = padded_with 0x36 (block_key key)

-- K xor opad
abbrev pub outer_pad : List ℕ → List ℕ
outer_pad key = padded_with 0x5C (block_key key)

-- H (K xor opad, H (K xor ipad, message))
unfoldable pub hmac_sha512 : List ℕ → List ℕ → List ℕ
hmac_sha512 key message = sha512 (outer_pad key ++ sha512 (inner_pad key ++ message))
