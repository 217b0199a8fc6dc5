use Rattle.std.proofs.Common.{ap, sym, ◌∙◌, Err}
use Rattle.std.proofs.lemmas.Bool.{iff_false}
use Rattle.s39_creating.specs.Reissue.{given_all}
use Rattle.s39_creating.proofs.Reissues.Given.{given_each}
use Rattle.s39_creating.proofs.Reissues.Outputs.{given_other}
use Rattle.s39_creating.proofs.reissuing.shares_of.Goals as goal

pub returns-then-is_empty : goal.returns-then-is_empty
returns-then-is_empty c =
    let plan = c.args.plan.now in
    ap (given_all plan.group_threshold plan.groups.items c.args.names.now) (c.is_empty.ensures.0 c.if-is_empty.true) ∙ ap Err (sym c.from.ensures)

pub returns-then-not-is_of_plan : goal.returns-then-not-is_of_plan
returns-then-not-is_of_plan c =
    let plan = c.args.plan.now in
    given_other plan.group_threshold plan.groups.items c.args.names.now c.args.set.now (iff_false c.is_empty.ensures c.if-is_empty.false)
    (iff_false c.is_of_plan.ensures c.if-not-is_of_plan.true)
    ∙ ap Err (sym c.from-then-not-is_of_plan.ensures)

pub returns : goal.returns
returns c =
    let plan = c.args.plan.now in
    given_each plan.group_threshold plan.groups.items c.args.names.now c.args.set.now (iff_false c.is_empty.ensures c.if-is_empty.false)
    (c.is_of_plan.ensures.0 c.if-not-is_of_plan.false)
    ∙ c.reissue_each.ensures
