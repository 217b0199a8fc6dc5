use Rattle.s39_split.proofs.SplitLaws.{splits_take_the_bytes_needed}
use Rattle.s39_split.proofs.laws.needed_random_bytes.Goals as goal

pub returns : goal.returns
returns c = splits_take_the_bytes_needed
