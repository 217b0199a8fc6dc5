use Rattle.s39_drilling.proofs.drill.start_of.Goals as goal

pub returns-in-None-clause-start : goal.returns-in-None-clause-start
returns-in-None-clause-start c =
    rw c.in-None.is (record {
      no_lack = λ lack is. (let refused = c.first.ensures.only lack is in let was = c.in_ok-least.was in absurd (cc));
      cursor = tt;
      starts = c.in_ok-least.ensures.first;
    })
