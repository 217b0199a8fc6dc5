use Rattle.std.proofs.Common.{◌≡◌, ◌≤◌, Some, Ok, length, sym, ap, ◌∙◌, subst}
use Rattle.s39_words.specs.declared.share.ShareFields.{ShareFields}
use Rattle.s39_set.specs.Names.{most_members}
use Rattle.s39_backup.specs.Reissue.{IsReissue}
use Rattle.s39_backup.proofs.AtHand.{is_share, low_group, low_member, like_itself}
use Rattle.s39_backup.proofs.Reissues.{reissue_found, reissue_missing}
use Rattle.s39_backup.proofs.missing_share.share_of_name.Goals as goal

pub like-requires-clause-group : goal.like-requires-clause-group
like-requires-clause-group c =
    low_group c.args.set.now c.are_a_share_set.ensures c.args.group c.args.member c.in-Some.share.now (sym c.in-Some.ensures.share)

pub like-requires-clause-member : goal.like-requires-clause-member
like-requires-clause-member c =
    low_member c.args.set.now c.are_a_share_set.ensures c.args.group c.args.member c.in-Some.share.now (sym c.in-Some.ensures.share)

pub like-requires-clause-positive : goal.like-requires-clause-positive
like-requires-clause-positive c =
    subst (λ t. 1 ≤ t) (sym c.member_threshold.ensures)
    (is_share c.args.set.now c.are_a_share_set.ensures c.args.group c.args.member c.in-Some.share.now (sym c.in-Some.ensures.share)).member_threshold

pub like-requires-clause-few : goal.like-requires-clause-few
like-requires-clause-few c =
    subst (λ t. t ≤ most_members) (sym c.member_threshold.ensures)
    (is_share c.args.set.now c.are_a_share_set.ensures c.args.group c.args.member c.in-Some.share.now (sym c.in-Some.ensures.share)).member_threshold_in_range

pub like-requires-clause-length : goal.like-requires-clause-length
like-requires-clause-length c = ap length (c.as_slice.ensures.value ∙ ap (λ v. v.items) c.value.ensures)

pub returns-in-Some : goal.returns-in-Some
returns-in-Some c =
    let set = c.args.set.now in
    let share = c.in-Some.share.now in
    let found = sym c.in-Some.ensures.share in
    let plan = c.args.plan.now in
    let threshold : c.member_threshold.result ≡ share.member_threshold = c.member_threshold.ensures in
    let value : c.as_slice.result.now ≡ share.value.items = c.as_slice.ensures.value ∙ ap (λ v. v.items) c.value.ensures in
    let same : c.like.result ≡ share =
    c.like.ensures ∙ rw (threshold, value) (like_itself set c.are_a_share_set.ensures c.args.group c.args.member share found) in
    subst (λ (s : ShareFields). IsReissue set plan.group_threshold plan.groups.items (c.args.group, c.args.member) (Ok s)) (sym same)
    (reissue_found set plan.group_threshold plan.groups.items (c.args.group, c.args.member) share found)

pub returns-in-None : goal.returns-in-None
returns-in-None c =
    let plan = c.args.plan.now in
    reissue_missing c.args.set.now plan.group_threshold plan.groups.items (c.args.group, c.args.member) (Some c.missing_share.result)
    (sym c.in-None.ensures.share) c.missing_share.ensures
