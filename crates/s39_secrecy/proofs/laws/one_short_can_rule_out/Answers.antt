use Rattle.s39_secrecy.proofs.Border.{of_no_split, no_bytes_give}
use Rattle.s39_secrecy.proofs.laws.one_short_can_rule_out.Goals as goal

pub returns-clause-of_a_level : goal.returns-clause-of_a_level
returns-clause-of_a_level c = of_no_split

pub returns-clause-of_one_group : goal.returns-clause-of_one_group
returns-clause-of_one_group c = no_bytes_give
