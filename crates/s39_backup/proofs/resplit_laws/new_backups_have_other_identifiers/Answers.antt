use Rattle.s39_backup.proofs.Resplits.{identifiers_differ}
use Rattle.s39_backup.proofs.resplit_laws.new_backups_have_other_identifiers.Goals as goal

pub returns : goal.returns
returns c = λ set group_threshold groups random shares old new is split. identifiers_differ set group_threshold groups random shares old new is split
