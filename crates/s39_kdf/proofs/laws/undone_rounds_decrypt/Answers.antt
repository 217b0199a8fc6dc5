use Rattle.s39_kdf.proofs.Halves.{undone_rounds_decrypt}
use Rattle.s39_kdf.proofs.laws.undone_rounds_decrypt.Goals as goal

pub returns : goal.returns
returns c = undone_rounds_decrypt
