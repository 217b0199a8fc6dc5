use Rattle.s39_kdf.proofs.Halves.{rounds_have_one_undone}
use Rattle.s39_kdf.proofs.laws.one_undone.Goals as goal

pub returns : goal.returns
returns c = rounds_have_one_undone
