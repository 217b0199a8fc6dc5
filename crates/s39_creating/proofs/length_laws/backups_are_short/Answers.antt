use Rattle.s39_creating.proofs.Lengths.Backups.{backup_short}
use Rattle.s39_creating.proofs.length_laws.backups_are_short.Goals as goal

pub returns : goal.returns
returns c = backup_short c.printed_forms.ensures.short
