use Rattle.s39_drilling.proofs.Drills.Drilling.{some_drill_of}
use Rattle.s39_drilling.proofs.Drills.OneDrill.{one_drill_of_a_set}
use Rattle.s39_drilling.proofs.laws.one_drill_of_a_set.Goals as goal

pub returns-clause-once : goal.returns-clause-once
returns-clause-once c = λ form set passphrase after limit text other more another mismatches others is.
    one_drill_of_a_set c.one_listing.ensures.once c.one_outcome.ensures set passphrase is after limit text other more another mismatches others

pub returns-clause-exists : goal.returns-clause-exists
returns-clause-exists c = λ form set passphrase after limit is.
    (let d = some_drill_of c.drill_laws.ensures set passphrase is form after limit in (d.text, d.more, d.mismatches, d.drill))
