use Rattle.std.proofs.Common.{◌≡◌, ℕ, get_or, Ok, sym, ap, ◌∙◌, subst, arith}
use Rattle.std.proofs.lemmas.Bool.{leb-true}
use Rattle.std.proofs.lemmas.List.{take_all}
use Rattle.s39_lists.specs.Each.{each}
use Rattle.s39_lists.proofs.Each.{each-more, each-stops}
use Rattle.s39_backup.specs.declared.plan.Members.{Members}
use Rattle.s39_backup.specs.declared.combination.Mismatch.TheVariants.{InGroup}
use Rattle.s39_backup.specs.Combination.{share_or_mismatch}
use Rattle.s39_backup.specs.GroupShares.{indexed_group_shares}
use Rattle.s39_backup.specs.Reissue.{least_share}
use Rattle.s39_backup.proofs.Combined.{indexed_group_shares-push}
use Rattle.s39_backup.proofs.missing_share.combine_each.Goals as goal

abbrev blank : ℕ × Members
blank = (0, record { threshold = 0; count = 0 })

pub combine_least-requires-clause-group : goal.combine_least-requires-clause-group
combine_least-requires-clause-group c = c.requires.are_groups c.loop-group.group-index _ c.loop-group-test.true

pub combine_least-requires-clause-at_hand : goal.combine_least-requires-clause-at_hand
combine_least-requires-clause-at_hand c = leb-true _ _ (c.requires.at_hand c.loop-group.group-index _ c.loop-group-test.true)

pub push-requires : goal.push-requires
push-requires c = omega (arith, c.requires.few, c.loop-group-test.true, c.loop-group.invariant.few)

pub returns-in_default : goal.returns-in_default
returns-in_default c =
    let groups = c.args.groups.now in
    let i = c.loop-group.group-index in
    each-stops (least_share c.args.set.now) groups i blank (indexed_group_shares c.loop-group.shares.items) (InGroup (get_or groups i blank).0)
    c.loop-group-test.true c.loop-group.invariant.combined (ap (share_or_mismatch (get_or groups i blank).0) (sym c.in_default.ensures))

pub loop-group-preserved : goal.loop-group-preserved
loop-group-preserved c =
    let groups = c.args.groups.now in
    let i = c.loop-group.group-index in
    let shares = c.loop-group.shares.items in
    let index = (get_or groups i blank).0 in
    record {
      combined = each-more (least_share c.args.set.now) groups i blank (indexed_group_shares shares) (index, c.in-Ok.share.items)
          c.loop-group-test.true c.loop-group.invariant.combined (ap (share_or_mismatch index) (sym c.in-Ok.ensures))
          ∙ sym (ap (λ items. Ok (indexed_group_shares items)) c.push.ensures.items
          ∙ ap (λ pairs. Ok pairs) (indexed_group_shares-push shares (index, c.in-Ok.share)));
      few = omega (arith, c.push.ensures.len, c.loop-group.invariant.few);
    }

pub returns : goal.returns
returns c =
    subst (λ gs. each (least_share c.args.set.now) gs ≡ Ok (indexed_group_shares c.loop-group.shares.items))
    (take_all c.loop-group.group-index c.args.groups.now c.loop-group-test.false) c.loop-group.invariant.combined
