use Rattle.s39_input.specs.Input.{whole}
use Rattle.s39_creating.proofs.Resplits.Outputs.{some_creation}
use Rattle.s39_creating.proofs.resplit_laws.resplits_are_short.Goals as goal

pub returns : goal.returns
returns c = λ group_threshold groups random input text output.
    let (asked, writes) = some_creation c.resplits_are_created_backups.ensures.creation c.every_quorum_has_an_outcome.ensures
    c.accepted_inputs_are_share_sets.ensures group_threshold groups random input text output in
    c.backups_are_short.ensures asked (whole random) text writes
