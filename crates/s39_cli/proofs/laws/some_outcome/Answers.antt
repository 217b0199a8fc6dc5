use Rattle.s39_cli.proofs.SomeOutcomes as some
use Rattle.s39_cli.proofs.laws.some_outcome.Goals as goal

pub returns : goal.returns
returns c = some.some_outcome c.some_show_output.ensures c.one_create_output.ensures.exists c.some_recover_output.ensures c.some_drill_output.ensures
    c.one_status_output.ensures.exists c.one_reissue_output.ensures.exists c.one_resplit_output.ensures.exists c.some_repair_output.ensures
