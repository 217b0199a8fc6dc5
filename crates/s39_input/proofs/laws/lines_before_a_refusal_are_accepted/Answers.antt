use Rattle.s39_input.proofs.Sets.Refusals.{first_refused, before_failure}
use Rattle.s39_input.proofs.laws.lines_before_a_refusal_are_accepted.Goals as goal

pub returns-clause-refused : goal.returns-clause-refused
returns-clause-refused c = first_refused

pub returns-clause-failed : goal.returns-clause-failed
returns-clause-failed c = before_failure
