use Rattle.s39_command.proofs.Faults as faults
use Rattle.s39_command.proofs.laws.first_fault.Goals as goal

pub returns-clause-first : goal.returns-clause-first
returns-clause-first c = faults.first_fault

pub returns-clause-some : goal.returns-clause-some
returns-clause-some c = faults.some_fault

pub returns-clause-one : goal.returns-clause-one
returns-clause-one c = faults.one_fault
