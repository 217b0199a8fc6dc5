use Rattle.s39_cli.proofs.Outcomes as outcomes
use Rattle.s39_cli.proofs.laws.one_outcome.Goals as goal

pub returns : goal.returns
returns c = outcomes.one_outcome c.one_show_output.ensures c.one_create_output.ensures.once c.one_recover_output.ensures c.one_drill_output.ensures
    c.one_status_output.ensures.once
    (λ threshold groups names is_plan input text other answer another.
    c.one_reissue_output.ensures.once threshold groups names input text other answer another is_plan)
    c.one_resplit_output.ensures.once c.one_repair_output.ensures c.one_plan_reading.ensures c.written_forms.ensures.once
