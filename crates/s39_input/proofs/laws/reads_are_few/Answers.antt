use Rattle.s39_input.proofs.Runs.FewReads as few
use Rattle.s39_input.proofs.laws.reads_are_few.Goals as goal

pub returns : goal.returns
returns g c = few.reads_are_few
