use Rattle.s39_input.proofs.Runs.Devices.{of_unread}
use Rattle.s39_creating.proofs.laws.unread_inputs_decide_nothing.Goals as goal

pub returns-clause-create : goal.returns-clause-create
returns-clause-create g c = λ asked reader read_to writer written_to answer runs. of_unread g.R.Read.remaining reader read_to _ runs.output

pub returns-clause-reissue : goal.returns-clause-reissue
returns-clause-reissue g c = λ group_threshold groups names reader read_to writer written_to answer runs.
    of_unread g.R.Read.remaining reader read_to _ runs.output
