use Rattle.s39_input.proofs.Texts.NamesShort.{length-all, names_short}
use Rattle.s39_input.proofs.Texts.AllNames.{all_names, all_are_names}
use Rattle.s39_input.proofs.laws.names_are_short.Goals as goal

pub returns-clause-most : goal.returns-clause-most
returns-clause-most c = names_short

pub returns-clause-reached : goal.returns-clause-reached
returns-clause-reached c = (all_names, all_are_names, length-all)
