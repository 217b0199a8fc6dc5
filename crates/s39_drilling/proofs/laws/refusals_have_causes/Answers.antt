use Rattle.std.proofs.Common.{refl}
use Rattle.s39_input.proofs.Runs.Causes.{of_some}
use Rattle.s39_drilling.proofs.Runs.Causes.{drill_cause}
use Rattle.s39_drilling.proofs.laws.refusals_have_causes.Goals as goal

pub returns : goal.returns
returns g c = record {
  drill = λ form passphrase after limit reader read_to writer written_to bad runs.
      let (input, text, is) = of_some g.R.Read.remaining g.W.Write.contents _ reader read_to writer written_to _ refl runs in
      drill_cause form passphrase after limit input text bad is;
}
