use Rattle.std.proofs.Common.{◌≡◌, Ok, refl, subst, arith}
use Rattle.std.proofs.lemmas.List.{take_all}
use Rattle.std.proofs.lemmas.Result.{err_from_is_err_and}
use Rattle.s39_lists.specs.Each.{each}
use Rattle.s39_lists.proofs.Each.{each-few, each-more, each-stops}
use Rattle.s39_input.specs.Fault.{fault_of_reissue}
use Rattle.s39_creating.specs.Reissue.{given}
use Rattle.s39_creating.proofs.reissuing.reissue_each.Goals as goal

pub reissue-requires-clause-name : goal.reissue-requires-clause-name
reissue-requires-clause-name c = c.requires.names c.loop-group.group-index (0, 0) c.loop-group-test.true

pub push-requires : goal.push-requires
push-requires c =
    let plan = c.args.plan.now in
    let few = c.requires.few in
    let within = c.loop-group-test.true in
    omega (
      arith,
      each-few (given c.args.set.now plan.group_threshold plan.groups.items) c.args.names.now c.loop-group.group-index c.loop-group.shares within
          c.loop-group.invariant,
    )

pub returns-in_err-share : goal.returns-in_err-share
returns-in_err-share c =
    let p = err_from_is_err_and c.from_residual.result c.from_residual.ensures.1 in
    let plan = c.args.plan.now in
    rw (p.1, p.2) (each-stops (given c.args.set.now plan.group_threshold plan.groups.items) c.args.names.now c.loop-group.group-index (0, 0) c.loop-group.shares
    (fault_of_reissue c.in_err-share.field-0.0) c.loop-group-test.true c.loop-group.invariant (rw c.in_err-share.ensures.reissue refl))

pub loop-group-preserved : goal.loop-group-preserved
loop-group-preserved c =
    let plan = c.args.plan.now in
    rw (c.push.ensures) (each-more (given c.args.set.now plan.group_threshold plan.groups.items) c.args.names.now c.loop-group.group-index (0, 0)
    c.loop-group.shares c.in_ok-share.share c.loop-group-test.true c.loop-group.invariant (rw c.in_ok-share.ensures.reissue refl))

pub returns : goal.returns
returns c =
    let plan = c.args.plan.now in
    subst (λ ns. each (given c.args.set.now plan.group_threshold plan.groups.items) ns ≡ Ok c.loop-group.shares)
    (take_all c.loop-group.group-index c.args.names.now c.loop-group-test.false) c.loop-group.invariant
