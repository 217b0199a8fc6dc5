use Rattle.s39_backup.proofs.OneRecovery.{stays_ok}
use Rattle.s39_backup.proofs.outcome.recover_by.Goals as goal

pub returns-clause-created : goal.returns-clause-created
returns-clause-created c = λ secret backup quorum.
    stays_ok c.recover_quorum.result c.map_err.result _ _ (c.recover_quorum.ensures.created secret backup) c.map_err.ensures.cases
