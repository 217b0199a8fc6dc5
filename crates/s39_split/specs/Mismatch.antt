-- The contents of the refusal of a digest that doesn't match.
use Rattle.std.specs.Prelude.{ℕ}
use Rattle.s39_refusal.specs.declared.cause.Cause.{Cause}
use Rattle.s39_refusal.specs.Causes.{cause}

-- the refusal of the member shares of this group, or of the group shares, for which group 16 stands
abbrev pub mismatch_cause : ℕ → Cause
mismatch_cause group = cause 51 group 0
