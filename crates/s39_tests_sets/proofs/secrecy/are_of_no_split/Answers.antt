use Rattle.std.proofs.Common.{[], get_or, arith}
use Rattle.std.proofs.lemmas.Option.{slice_get-get_or}
use Rattle.s39_tests_sets.proofs.secrecy.are_of_no_split.Goals as goal

pub returns-in-Err : goal.returns-in-Err
returns-in-Err c refused count secret random shares split among =
    let positive = split.positive in
    let enough = split.enough in
    c.in-Err.ensures.of_a_split count secret random shares (get_or shares 0 []) split among
    (slice_get-get_or shares 0 [] (omega (arith, split.number)))
