use Rattle.s39_backup.proofs.HeldGroups.{no_names_short}
use Rattle.s39_secrecy.proofs.laws.nothing_else_is_asked.Goals as goal

pub returns-clause-no_names : goal.returns-clause-no_names
returns-clause-no_names c = no_names_short
