use Rattle.s39_words.proofs.Remainders.{checksum_found}
use Rattle.s39_words.proofs.laws.every_checksum_exists.Goals as goal

pub returns : goal.returns
returns c = checksum_found
