use Rattle.std.proofs.Common.{refl}
use Rattle.s39_input.proofs.Runs.Causes.{of_some}
use Rattle.s39_reading.proofs.Runs.Causes.{recover_cause}
use Rattle.s39_reading.proofs.laws.refusals_have_causes.Goals as goal

pub returns : goal.returns
returns g c = record {
  recover = λ form expected passphrase reader read_to writer written_to bad runs.
      let (input, text, is) = of_some g.R.Read.remaining g.W.Write.contents _ reader read_to writer written_to _ refl runs in
      recover_cause form expected passphrase input text bad is;
}
