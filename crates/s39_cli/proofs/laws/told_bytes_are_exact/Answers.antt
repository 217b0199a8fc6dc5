use Rattle.s39_cli.proofs.laws.told_bytes_are_exact.Goals as goal

pub returns-clause-beginning : goal.returns-clause-beginning
returns-clause-beginning c = λ old new text holds. (holds.0, holds.1)

pub returns-clause-all : goal.returns-clause-all
returns-clause-all c = λ all bytes same. same
