use Rattle.s39_kdf.proofs.Halves.{undoing_keeps_length_and_bytes}
use Rattle.s39_kdf.proofs.laws.undoing_keeps_length_and_bytes.Goals as goal

pub returns : goal.returns
returns c = undoing_keeps_length_and_bytes
