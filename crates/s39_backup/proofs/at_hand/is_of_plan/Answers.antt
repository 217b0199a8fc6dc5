use Rattle.std.proofs.Common.{◌/◌, ◌%◌, refl, sym, arith}
use Rattle.std.proofs.lemmas.Bool.{false≢true, iff_false}
use Rattle.std.proofs.lemmas.List.Elements.{All-contains}
use Rattle.s39_set.specs.Names.{most_members}
use Rattle.s39_set.specs.ShareSet.{has_name}
use Rattle.s39_lists.proofs.Finds.{Contains-find}
use Rattle.s39_backup.specs.Reissue.{IsOfPlan}
use Rattle.s39_backup.proofs.AtHand.{all_from_places}
use Rattle.s39_backup.proofs.at_hand.is_of_plan.Goals as goal

pub returns-then-not-may_have : goal.returns-then-not-may_have
returns-then-not-may_have c = (
  λ passes. absurd (false≢true passes),
  λ all.
      let place = c.loop-place.place in
      let plan = c.args.plan.now in
      absurd (iff_false c.may_have.ensures c.if-not-may_have.true
      (All-contains (IsOfPlan plan.group_threshold plan.groups.items) c.args.set.now c.in-Some.share.now all
      (Contains-find (has_name (place / most_members) (place % most_members)) c.args.set.now c.in-Some.share.now (sym c.in-Some.ensures)))),
)

pub returns : goal.returns
returns c =
    let plan = c.args.plan.now in (
      λ _. all_from_places c.args.set.now c.are_a_share_set.ensures (IsOfPlan plan.group_threshold plan.groups.items)
          (λ place below. c.loop-place.invariant place (omega arith)),
      λ _. refl,
    )
