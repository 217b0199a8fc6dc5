use Rattle.s39_input.proofs.Runs.Repaired.{told, only_told}
use Rattle.s39_input.proofs.laws.two_mnemonics_are_told.Goals as goal

pub returns : goal.returns
returns c = record { told = told; only = only_told }
