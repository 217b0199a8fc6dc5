use Rattle.s39_input.proofs.Sets.BackupSets.{of_backup}
use Rattle.s39_input.proofs.laws.mnemonics_of_a_backup_are_a_set.Goals as goal

pub returns : goal.returns
returns c = λ passphrase secret input mnemonics.
    let (set, read, belong) = c.mnemonics_are_read_as_their_shares.ensures passphrase secret input mnemonics in
    (set, read, of_backup passphrase secret input mnemonics set belong)
