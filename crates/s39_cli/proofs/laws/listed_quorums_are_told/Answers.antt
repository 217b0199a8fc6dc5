use Rattle.std.proofs.Common.{Bool, refl, subst}
use Rattle.std.specs.Int.Count.{ones}
use Rattle.s39_cli.specs.Said.{Says, line_if, listed_lines}
use Rattle.s39_cli.proofs.HowFar.{told_listed}
use Rattle.s39_cli.proofs.laws.listed_quorums_are_told.Goals as goal

pub returns-clause-said : goal.returns-clause-said
returns-clause-said g c = told_listed

pub returns-clause-silent : goal.returns-clause-silent
returns-clause-silent g c = λ contents n old new seen none.
    (subst (λ (b : Bool). Says contents old new (line_if b (listed_lines n))) none (told_listed contents n old new seen)).silent refl

pub returns-clause-few : goal.returns-clause-few
unfolding ones
returns-clause-few g c = refl

pub returns-clause-many : goal.returns-clause-many
returns-clause-many g c = refl
