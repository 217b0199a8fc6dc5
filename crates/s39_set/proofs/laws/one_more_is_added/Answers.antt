use Rattle.s39_set.proofs.OneMore.{one_more_cases, one_more_has}
use Rattle.s39_set.proofs.laws.one_more_is_added.Goals as goal

pub returns : goal.returns
returns c old share new more s = (one_more_cases old share new more s, one_more_has old share new more s)
