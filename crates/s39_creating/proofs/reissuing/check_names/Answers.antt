use Rattle.std.proofs.Common.{◌≡◌, not, get_or, None, subst}
use Rattle.std.proofs.lemmas.Bool.{iff_false, false_from_ne_true, not_from_true, not_from_false}
use Rattle.std.proofs.lemmas.List.{take_all}
use Rattle.s39_creating.specs.Reissue.{is_name_of_plan, first_other}
use Rattle.s39_creating.proofs.Reissues.Named.{find-here, find-later, name_tested, none_other}
use Rattle.s39_creating.proofs.reissuing.check_names.Goals as goal

pub returns-then-not-has_name-clause-other : goal.returns-then-not-has_name-clause-other
returns-then-not-has_name-clause-other c =
    let groups = c.args.plan.now.groups.items in
    let k = c.loop-group.group-index in
    let name = get_or c.args.names.now k (0, 0) in
    find-here (λ n. not (is_name_of_plan groups n)) c.args.names.now k (0, 0) c.loop-group-test.true c.loop-group.invariant
    (not_from_false (is_name_of_plan groups name)
    (false_from_ne_true (is_name_of_plan groups name) (λ t. iff_false c.has_name.ensures c.if-not-has_name.true ((name_tested groups name).0 t))))

pub loop-group-preserved : goal.loop-group-preserved
loop-group-preserved c =
    let groups = c.args.plan.now.groups.items in
    let k = c.loop-group.group-index in
    let name = get_or c.args.names.now k (0, 0) in
    find-later (λ n. not (is_name_of_plan groups n)) c.args.names.now k (0, 0) c.loop-group-test.true c.loop-group.invariant
    (not_from_true (is_name_of_plan groups name) ((name_tested groups name).1 (c.has_name.ensures.0 c.if-not-has_name.false)))

pub returns-clause-all : goal.returns-clause-all
returns-clause-all c =
    none_other c.args.plan.now.groups.items c.args.names.now
    (subst (λ ns. first_other c.args.plan.now.groups.items ns ≡ None)
    (take_all c.loop-group.group-index c.args.names.now c.loop-group-test.false) c.loop-group.invariant)
