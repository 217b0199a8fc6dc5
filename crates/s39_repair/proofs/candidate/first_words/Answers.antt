use Rattle.std.proofs.Common.{sym, ap, subst, ◌∙◌}
use Rattle.std.specs.Prelude.{All}
use Rattle.std.proofs.lemmas.List.{take_all}
use Rattle.s39_words.specs.Layout.{IsIndex}
use Rattle.s39_repair.specs.Answer.{firsts}
use Rattle.s39_repair.proofs.Candidates.{firsts-in_list}
use Rattle.s39_repair.proofs.candidate.first_words.Goals as goal

pub returns-clause-in_list : goal.returns-clause-in_list
returns-clause-in_list c =
    subst (All IsIndex) (sym (c.loop-range.invariant ∙ ap firsts (take_all c.loop-range.range-index c.args.ranges.now c.loop-range-test.false)))
    (firsts-in_list c.args.ranges.now c.requires.all)
