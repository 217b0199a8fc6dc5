use Rattle.s39_repair.proofs.Unread.{misread_line}
use Rattle.s39_repair.proofs.laws.every_mnemonic_can_be_misread.Goals as goal

pub returns : goal.returns
returns c = misread_line
