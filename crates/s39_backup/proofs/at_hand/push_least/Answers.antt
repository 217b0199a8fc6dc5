use Rattle.std.proofs.Common.{◌≡◌, ◌-◌, ◌++◌, length, take, ap, ◌∙◌, arith}
use Rattle.s39_set.specs.Names.{most_members}
use Rattle.std.specs.Option.{option_copied}
use Rattle.s39_backup.specs.Reissuing.{members_below}
use Rattle.s39_backup.proofs.MembersAtHand.{below_all, one_index_more, nothing_added}
use Rattle.s39_backup.proofs.at_hand.push_least.Goals as goal

pub loop-member-init : goal.loop-member-init
loop-member-init c = nothing_added c.args.set.now c.args.group c.args.points.now c.args.threshold

pub loop-member-preserved : goal.loop-member-preserved
loop-member-preserved c =
    one_index_more c.args.set.now c.are_a_share_set.ensures c.args.group c.loop-member.member c.args.points.now c.loop-member.points c.add_found.new.points
    c.args.threshold (option_copied c.share_at.result) c.share_at.ensures.share c.loop-member.invariant c.add_found.ensures.none c.add_found.ensures.full
    c.add_found.ensures.found

pub returns : goal.returns
returns c =
    let all : c.loop-member.member ≡ most_members = omega arith in
    c.loop-member.invariant
    ∙ ap (λ xs. c.args.points.now ++ take (c.args.threshold - length c.args.points.now) xs)
    (ap (members_below c.args.set.now c.args.group) all ∙ below_all c.args.group c.args.set.now c.are_a_share_set.ensures.each)
