-- The contents of the refusals of passphrases, secrets and fingerprints.
use Rattle.std.specs.Prelude.{ℕ}
use Rattle.s39_refusal.specs.declared.cause.Cause.{Cause}
use Rattle.s39_refusal.specs.Causes.{cause}

-- the refusal of a passphrase whose first unprintable byte has this position
abbrev pub passphrase_cause : ℕ → Cause
passphrase_cause position = cause 41 position 0

-- the refusal of a secret of this many bytes
abbrev pub length_cause : ℕ → Cause
length_cause bytes = cause 42 bytes 0

-- the refusal of a text that isn't a fingerprint
abbrev pub fingerprint_cause : Cause
fingerprint_cause = cause 44 0 0
