-- The fingerprint of a secret, by which its owner recognises it without seeing it. It is this program's own definition,
-- and not part of the standard.
use Rattle.std.specs.Prelude.{ℕ, List, take, codes}
use Rattle.s39_kdf.specs.Hmac.{hmac}

-- the number of bytes of a fingerprint
abbrev pub fingerprint_length : ℕ
fingerprint_length = 4

-- the first bytes of the HMAC-SHA256 of the secret under this key
abbrev pub fingerprint_of : List ℕ → List ℕ
fingerprint_of secret = take fingerprint_length (hmac (codes "shamir fingerprint") secret)
