-- What a refusal says.
use Rattle.std.specs.Prelude.{ℕ}
use Rattle.s39_refusal.specs.declared.cause.Cause.{Cause}

-- the refusal of a number, with its two details
abbrev pub cause : ℕ → ℕ → ℕ → Cause
cause code first second = record { code = code; first = first; second = second }
