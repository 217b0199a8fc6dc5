-- Why a quorum gives no secret.
use Rattle.s39_refusal.specs.declared.cause.Cause.{Cause}
use Rattle.s39_split.specs.Mismatch.{mismatch_cause}
use Rattle.s39_set.specs.Causes.{no_quorum_cause}
use Rattle.s39_backup.specs.declared.combination.Mismatch.{Mismatch}
use Rattle.s39_backup.specs.declared.combination.Mismatch.TheVariants.{InGroup, OfGroups}
use Rattle.s39_backup.specs.declared.outcome.RecoverError.{RecoverError}
use Rattle.s39_backup.specs.declared.outcome.RecoverError.TheVariants.{NotAQuorum, DigestMismatch}

-- what the mismatch of a digest says
abbrev pub mismatch_cause_of : Mismatch → Cause
mismatch_cause_of (InGroup group) = mismatch_cause group
mismatch_cause_of OfGroups = mismatch_cause 16

-- what a refusal says
abbrev pub cause_of : RecoverError → Cause
cause_of NotAQuorum = no_quorum_cause
cause_of (DigestMismatch mismatch) = mismatch_cause_of mismatch
