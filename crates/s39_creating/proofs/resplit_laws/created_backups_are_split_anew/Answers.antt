use Rattle.s39_creating.proofs.Resplits.OfBackups.{split_anew}
use Rattle.s39_creating.proofs.resplit_laws.created_backups_are_split_anew.Goals as goal

pub returns : goal.returns
returns c =
    split_anew c.resplits_are_created_backups.ensures.creation c.one_set.ensures c.accepted_inputs_are_share_sets.ensures
    c.mnemonics_are_read_as_their_shares.ensures c.every_quorum_recovers.ensures c.encryption_keeps_length_and_bytes.ensures
