use Rattle.s39_repair.proofs.Unread.{accepted_words}
use Rattle.s39_repair.proofs.laws.accepted_words.Goals as goal

pub returns : goal.returns
returns c = accepted_words
