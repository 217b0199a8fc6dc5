use Rattle.s39_c.proofs.MostExponents.{every_secret, every_listing}
use Rattle.s39_c.proofs.laws.a_most_of_15_refuses_nothing.Goals as goal

pub returns-clause-recovers : goal.returns-clause-recovers
returns-clause-recovers c = λ most passphrase lines digits old new answer all.
    every_secret most passphrase lines c.one_checked_set.ensures c.shares_have_the_exponent.ensures.most all digits old new answer

pub returns-clause-drills : goal.returns-clause-drills
returns-clause-drills c = λ most passphrase lines cursor limit number digits old new answer all.
    every_listing most passphrase lines c.one_checked_set.ensures c.shares_have_the_exponent.ensures.most all cursor limit number digits old new answer
