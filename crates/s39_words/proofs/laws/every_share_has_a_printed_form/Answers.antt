use Rattle.s39_words.proofs.Printed.{some_printed_form}
use Rattle.s39_words.proofs.laws.every_share_has_a_printed_form.Goals as goal

pub returns : goal.returns
returns c = some_printed_form
