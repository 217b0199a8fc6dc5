use Rattle.std.proofs.Common.{refl}
use Rattle.s39_creating.specs.Reissue.{reissued}
use Rattle.s39_creating.proofs.Reissues.Given.{shares_of_set}
use Rattle.s39_creating.proofs.Reissues.OneReissued.{output_once, some_written}
use Rattle.s39_creating.proofs.reissue_laws.one_reissue_output.Goals as goal

pub returns-clause-once : goal.returns-clause-once
returns-clause-once c = λ group_threshold groups names input text other answer another plan.
    output_once c.one_printed_form.ensures c.one_set.ensures group_threshold groups names input text other answer another

pub returns-clause-exists : goal.returns-clause-exists
returns-clause-exists c = λ group_threshold groups names input plan.
    let (read, is, set) = c.every_input_is_read.ensures input in
    let (text, answer, written) =
    some_written c.every_share_has_a_printed_form.ensures (reissued group_threshold groups names read)
    (shares_of_set group_threshold groups names c.reissued_shares_are_shares.ensures plan read set) in
    (text, answer, (reissued group_threshold groups names read, (read, is, refl), written))
