use Rattle.s39_kdf.proofs.Rounds.{encryption_keeps_length_and_bytes}
use Rattle.s39_kdf.proofs.laws.encryption_keeps_length_and_bytes.Goals as goal

pub returns : goal.returns
returns c = encryption_keeps_length_and_bytes
