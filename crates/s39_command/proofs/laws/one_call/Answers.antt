use Rattle.s39_command.proofs.OneCall as calls
use Rattle.s39_command.proofs.laws.one_call.Goals as goal

pub returns : goal.returns
returns c = calls.one_call
