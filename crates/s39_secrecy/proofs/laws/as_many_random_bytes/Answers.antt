use Rattle.std.proofs.Common.{map}
use Rattle.std.proofs.lemmas.List.{length-map}
use Rattle.s39_secrecy.specs.Secrecy.{Give}
use Rattle.s39_secrecy.proofs.OneToOne.{as_many_give, different_there}
use Rattle.s39_secrecy.proofs.Counts.{as_many}
use Rattle.s39_secrecy.proofs.Listed.{listed}
use Rattle.s39_secrecy.proofs.TwoFunctions.{from_two_functions}
use Rattle.s39_secrecy.proofs.laws.as_many_random_bytes.Goals as goal
use Rattle.s39_backup.specs.InCommon.{for_secret}

pub returns-clause-one_to_one : goal.returns-clause-one_to_one
returns-clause-one_to_one c = as_many_give

pub returns-clause-as_many : goal.returns-clause-as_many
returns-clause-as_many c asked other some lists others setting =
    as_many (Give asked some) (Give (for_secret other asked) some) (as_many_give asked other some setting) lists others

pub returns-clause-no_more : goal.returns-clause-no_more
returns-clause-no_more c asked other some lists setting are =
    let each = as_many_give asked other some setting in (
      map each.there lists,
      different_there (Give asked some) (Give (for_secret other asked) some) each.there each.back each.undo lists are,
      length-map lists each.there,
    )

pub returns-clause-listed : goal.returns-clause-listed
returns-clause-listed c = listed

pub returns-clause-from_two_functions : goal.returns-clause-from_two_functions
returns-clause-from_two_functions c = from_two_functions
