-- What the refusals of names say.
use Rattle.s39_refusal.specs.declared.cause.Cause.{Cause}
use Rattle.s39_refusal.specs.Causes.{cause}

-- of a cursor that is no written form of names
abbrev pub cursor_cause : Cause
cursor_cause = cause 61 0 0

-- of a list of names that is none
abbrev pub names_cause : Cause
names_cause = cause 63 0 0

-- of names that are no quorum
abbrev pub no_quorum_cause : Cause
no_quorum_cause = cause 62 0 0
