use Rattle.s39_words.proofs.Printed.{one_printed_form}
use Rattle.s39_words.proofs.laws.one_printed_form.Goals as goal

pub returns : goal.returns
returns c = one_printed_form
