use Rattle.s39_split.proofs.Choices.{length-shares}
use Rattle.s39_split.proofs.SplitLaws.{shares_are_bytes}
use Rattle.s39_split.proofs.laws.shares_of_a_split.Goals as goal

pub returns : goal.returns
returns c = record { length = length-shares; bytes = shares_are_bytes }
