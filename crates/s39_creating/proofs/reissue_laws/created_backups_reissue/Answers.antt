use Rattle.s39_creating.proofs.Reissues.OfBackups.{reissues_created}
use Rattle.s39_creating.proofs.reissue_laws.created_backups_reissue.Goals as goal

pub returns : goal.returns
returns c =
    reissues_created c.backups_reissue_their_shares.ensures.of_plan c.backups_reissue_their_shares.ensures.right c.every_name_has_a_reissue.ensures
    c.names_are_determined_or_not.ensures.determined c.names_are_determined_or_not.ensures.undetermined c.one_set.ensures
    c.accepted_inputs_are_share_sets.ensures c.mnemonics_are_read_as_their_shares.ensures
