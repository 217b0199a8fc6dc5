use Rattle.std.proofs.Common.{◌<◌, refl, arith}
use Rattle.std.proofs.lemmas.List.Elements.{All-replicate}
use Rattle.s39_secrecy.proofs.laws.rows.Goals as goal

pub returns-clause-no_name_of_one_group : goal.returns-clause-no_name_of_one_group
returns-clause-no_name_of_one_group c two_short =
    let past : 5 < 5 = two_short.of_plan 0 (0, 0) (omega arith) in
    absurd (omega (arith, past))

pub returns-clause-random : goal.returns-clause-random
returns-clause-random c options = record {
  bytes = All-replicate (λ byte. byte < 256) 30 0 (omega arith);
  number = refl;
}
