use Rattle.s39_backup.proofs.SharesCreated.{are_shares}
use Rattle.s39_backup.proofs.laws.created_shares_are_shares.Goals as goal

pub returns : goal.returns
returns c = are_shares c.shares_of_a_split.ensures.length c.shares_of_a_split.ensures.bytes c.encryption_keeps_length_and_bytes.ensures
