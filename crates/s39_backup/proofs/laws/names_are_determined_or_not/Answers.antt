use Rattle.s39_backup.proofs.Reissues.{is_determined, is_undetermined}
use Rattle.s39_backup.proofs.laws.names_are_determined_or_not.Goals as goal

pub returns-clause-determined : goal.returns-clause-determined
returns-clause-determined c = λ set group_threshold groups name share is. is_determined set group_threshold groups name is share

pub returns-clause-undetermined : goal.returns-clause-undetermined
returns-clause-undetermined c = λ set group_threshold groups name few is. is_undetermined set group_threshold groups name is few
