use Rattle.s39_input.proofs.Runs.Writing.{Runs-map}
use Rattle.s39_creating.proofs.resplitting.run_resplit.Goals as goal

-- mnemonics of a created backup
pub returns-clause-created : goal.returns-clause-created
returns-clause-created g c = Runs-map c.write_resplit.ensures.runs (c.created_backups_are_split_anew.ensures _ _ _)
