use Rattle.s39_input.proofs.Runs.Writing.{Runs-map}
use Rattle.s39_creating.proofs.reissuing.run_reissue.Goals as goal

-- mnemonics of a created backup
pub returns-clause-created : goal.returns-clause-created
returns-clause-created g c = Runs-map c.write_reissued.ensures.runs (c.created_backups_reissue.ensures _ _ _)
