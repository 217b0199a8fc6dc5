use Rattle.s39_input.proofs.Sets.Checked.{checked_sets}
use Rattle.s39_input.proofs.laws.one_checked_set.Goals as goal

pub returns : goal.returns
returns c =
    checked_sets c.passphrases_are_printable_or_not.ensures.one c.passphrases_are_printable_or_not.ensures.none
    c.passphrases_are_printable_or_not.ensures.some c.every_input_is_read.ensures c.one_set.ensures c.accepted_inputs_are_share_sets.ensures
