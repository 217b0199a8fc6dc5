use Rattle.s39_split.proofs.SplitLaws.{have_a_split, have_one_split}
use Rattle.s39_split.proofs.laws.one_split.Goals as goal

pub returns : goal.returns
returns c = record { some = have_a_split; one = have_one_split }
