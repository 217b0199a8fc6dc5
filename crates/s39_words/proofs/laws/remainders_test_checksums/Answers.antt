use Rattle.s39_words.proofs.OneReading.{checksum_test}
use Rattle.s39_words.proofs.laws.remainders_test_checksums.Goals as goal

pub returns : goal.returns
returns c = checksum_test
