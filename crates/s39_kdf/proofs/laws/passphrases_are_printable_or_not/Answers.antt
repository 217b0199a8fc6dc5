use Rattle.s39_kdf.proofs.Unprintable.{first_unprintable_once, none_unprintable, printable_or_first}
use Rattle.s39_kdf.proofs.laws.passphrases_are_printable_or_not.Goals as goal

pub returns-clause-one : goal.returns-clause-one
returns-clause-one c = first_unprintable_once

pub returns-clause-none : goal.returns-clause-none
returns-clause-none c = none_unprintable

pub returns-clause-some : goal.returns-clause-some
returns-clause-some c = printable_or_first
