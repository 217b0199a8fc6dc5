use Rattle.s39_backup.proofs.Reissues.{reissued_are_shares}
use Rattle.s39_backup.proofs.laws.reissued_shares_are_shares.Goals as goal

pub returns : goal.returns
returns c = λ set group_threshold groups name share is plan named. reissued_are_shares set group_threshold groups name is plan named share
