use Rattle.s39_creating.proofs.Resplits.Outputs.{output_once, some_output}
use Rattle.s39_creating.proofs.resplit_laws.one_resplit_output.Goals as goal

pub returns-clause-once : goal.returns-clause-once
returns-clause-once c = λ group_threshold groups random input.
    output_once group_threshold groups random input c.one_set.ensures c.accepted_inputs_are_share_sets.ensures c.one_resplit.ensures.once
    c.one_printed_form.ensures

pub returns-clause-exists : goal.returns-clause-exists
returns-clause-exists c = λ group_threshold groups random input plan bytes.
    some_output c.resplits_are_created_backups.ensures.creation c.every_quorum_has_an_outcome.ensures c.encryption_keeps_length_and_bytes.ensures
    (λ set names is quorum. record { is_set = is; exact = (c.quorums_are_exact.ensures set names is).0 quorum })
    (λ asked drawn shares is_plan long secret_bytes drawn_bytes creates.
    c.created_shares_are_shares.ensures asked drawn shares is_plan long secret_bytes drawn_bytes creates.3)
    group_threshold groups random input c.every_share_has_a_printed_form.ensures c.accepted_inputs_are_share_sets.ensures
    (c.every_input_is_read.ensures input)
    (λ set is. c.one_resplit.ensures.exists set group_threshold groups random is plan bytes) plan bytes
