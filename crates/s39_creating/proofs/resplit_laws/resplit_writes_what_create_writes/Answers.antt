use Rattle.s39_creating.proofs.Resplits.Outputs.{create_writes}
use Rattle.s39_creating.proofs.resplit_laws.resplit_writes_what_create_writes.Goals as goal

pub returns : goal.returns
returns c = create_writes c.resplits_are_created_backups.ensures.creation c.one_set.ensures c.accepted_inputs_are_share_sets.ensures
