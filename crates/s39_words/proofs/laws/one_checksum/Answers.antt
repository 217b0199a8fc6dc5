use Rattle.s39_words.proofs.Remainders.{one_checksum}
use Rattle.s39_words.proofs.laws.one_checksum.Goals as goal

pub returns : goal.returns
returns c = λ extendable words checksum other all in_range in_range' len len' valid valid'. one_checksum extendable words checksum other all len
    len' in_range in_range' valid valid'
