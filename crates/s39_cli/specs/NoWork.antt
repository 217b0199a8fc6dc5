-- Why a job isn't begun. No public contract cites this.
use Rattle.std.specs.Prelude.{Err}
use Rattle.clap.specs.Words.{Text}
use Rattle.s39_backup.specs.Plan.{IsPlanReading}
use Rattle.s39_command.specs.declared.command.Job.{Job}
use Rattle.s39_cli.specs.declared.work.NoWork.{NoWork}
use Rattle.s39_cli.specs.declared.work.NoWork.TheVariants.{Secret, Plan, Cursor, Fingerprint, Names, Memory}
use Rattle.s39_cli.specs.Outcome.{IsNotHexadecimal, HasBadSecret, HasBadPlan, HasBadCursor, HasBadFingerprint, HasBadNames, GivesPlan, WritesNoNames}

-- the cause applies to the job with this text of its secret
abbrev pub IsNoWork : Job → Text → NoWork → Type 0
IsNoWork job secret Secret = HasBadSecret job secret
IsNoWork job secret (Plan error) = HasBadPlan job secret error
IsNoWork job secret (Cursor bad) = HasBadCursor job
IsNoWork job secret (Fingerprint bad) = HasBadFingerprint job
IsNoWork job secret (Names bad) = HasBadNames job
IsNoWork job secret Memory = Unit {0}

-- the cause applies to the text of a secret
abbrev pub IsNoSecret : Text → NoWork → Type 0
IsNoSecret text Secret = IsNotHexadecimal text
IsNoSecret text Memory = Unit {0}
IsNoSecret text _ = ⊥

-- the cause applies to the texts of a plan and of names
abbrev pub IsNoReissue : Text → Text → NoWork → Type 0
IsNoReissue plan names (Plan error) = IsPlanReading plan (Err error)
IsNoReissue plan names (Names bad) = GivesPlan plan × WritesNoNames names
IsNoReissue plan names _ = ⊥
