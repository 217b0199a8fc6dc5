use Rattle.bip32.proofs.Steps.{in_a_row, one_step}
use Rattle.bip32.proofs.laws.paths_in_a_row.Goals as goal

pub returns-clause-rows : goal.returns-clause-rows
returns-clause-rows c = in_a_row

pub returns-clause-one : goal.returns-clause-one
returns-clause-one c = one_step
