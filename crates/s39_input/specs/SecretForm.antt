-- The forms in which a line shows a secret.
use Rattle.std.specs.Prelude.{ℕ, List, codes, Bool, false, not, if◌then◌else◌}
use Rattle.hex.specs.Hex.{encode_lower}
use Rattle.s39_kdf.specs.Fingerprint.{fingerprint_of}
use Rattle.s39_kdf.specs.Noted.{has_fingerprint}
use Rattle.s39_kdf.specs.declared.secret_form.SecretForm.{SecretForm}
use Rattle.s39_kdf.specs.declared.secret_form.SecretForm.TheVariants.{Digits, Fingerprint, Expected}

-- another fingerprint is expected than that of the secret
abbrev pub is_unexpected : SecretForm → List ℕ → Bool
is_unexpected Digits secret = false
is_unexpected Fingerprint secret = false
is_unexpected (Expected noted) secret = not (has_fingerprint noted secret)

-- the secret, or its fingerprint, in lower-case hexadecimal; or whether it has the expected fingerprint
abbrev pub secret_in : SecretForm → List ℕ → List ℕ
secret_in Digits secret = encode_lower secret
secret_in Fingerprint secret = encode_lower (fingerprint_of secret)
secret_in (Expected noted) secret = if has_fingerprint noted secret then codes "as expected" else codes "other secret"
