use Rattle.s39_words.proofs.OneReading.{same_share}
use Rattle.s39_words.proofs.laws.one_share.Goals as goal

pub returns : goal.returns
returns c = same_share
