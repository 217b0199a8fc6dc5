use Rattle.s39_cli.proofs.Repairs as repairs
use Rattle.s39_cli.proofs.laws.repairs_tell_of_two.Goals as goal

pub returns : goal.returns
returns c = repairs.repairs_tell_of_two c.two_mnemonics_are_told.ensures.told c.two_mnemonics_are_told.ensures.only
