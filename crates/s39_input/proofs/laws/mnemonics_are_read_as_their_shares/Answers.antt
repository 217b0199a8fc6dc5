use Rattle.s39_input.proofs.Sets.BackupSets.{read_as_set}
use Rattle.s39_input.proofs.laws.mnemonics_are_read_as_their_shares.Goals as goal

pub returns : goal.returns
returns c = read_as_set c.shares_of_a_backup_agree.ensures
