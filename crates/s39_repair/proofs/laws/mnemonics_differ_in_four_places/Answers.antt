use Rattle.s39_repair.proofs.WrongPlaces.{one_mnemonic}
use Rattle.s39_repair.proofs.laws.mnemonics_differ_in_four_places.Goals as goal

pub returns : goal.returns
returns c = one_mnemonic
