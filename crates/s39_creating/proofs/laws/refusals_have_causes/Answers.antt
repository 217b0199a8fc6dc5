use Rattle.std.proofs.Common.{refl}
use Rattle.s39_input.proofs.Runs.Causes.{of_some}
use Rattle.s39_creating.proofs.Runs.Causes.{create_cause, secret_cause}
use Rattle.s39_creating.proofs.Reissues.Faults.{name_cause}
use Rattle.s39_creating.proofs.laws.refusals_have_causes.Goals as goal

pub returns-clause-create : goal.returns-clause-create
returns-clause-create g c = λ asked reader read_to writer written_to bad runs.
    let (input, text, is) = of_some g.R.Read.remaining g.W.Write.contents _ reader read_to writer written_to _ refl runs in
    create_cause asked input text bad is

pub returns-clause-secret : goal.returns-clause-secret
returns-clause-secret g c = λ asked reader read_to writer written_to bad runs.
    let (input, text, is) = of_some g.R.Read.remaining g.W.Write.contents _ reader read_to writer written_to _ refl runs in
    secret_cause asked input text bad is

pub returns-clause-name : goal.returns-clause-name
returns-clause-name g c = λ group_threshold groups names reader read_to writer written_to group member runs.
    let (input, text, is) = of_some g.R.Read.remaining g.W.Write.contents _ reader read_to writer written_to _ refl runs in
    name_cause group_threshold groups names input text group member is
