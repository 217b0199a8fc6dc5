use Rattle.std.proofs.Common.{◌≡◌, ℕ, Some, Ok, length, sym, ap, ◌∙◌}
use Rattle.std.specs.Option.{option_map}
use Rattle.std.specs.Result.{result_map_both}
use Rattle.std.proofs.lemmas.List.Elements.{All-contains}
use Rattle.std.proofs.lemmas.Result.{err_from_is_err_and}
use Rattle.s39_backup.specs.GroupShares.{value_bytes_of}
use Rattle.s39_backup.specs.Reissue.{first_of, share_like, missing_share}
use Rattle.s39_backup.proofs.Values.{values_agree}
use Rattle.s39_backup.proofs.Points.{value_like, some_at_hand, has_first, alike}
use Rattle.s39_backup.proofs.missing_share.missing_share.Goals as goal

pub returns-in_err-value : goal.returns-in_err-value
returns-in_err-value c =
    let plan = c.args.plan.now in
    let set = c.args.set.now in
    let name : ℕ × ℕ = (c.args.group, c.args.member) in
    let error = err_from_is_err_and c.from_residual.result c.from_residual.ensures.1 in
    rw (error.1, error.2) (ap (option_map (missing_share set plan.group_threshold plan.groups.items name)) c.members_of-members.ensures.members
    ∙ ap (λ v. Some (result_map_both (share_like (first_of set) name c.members_of-members.result.threshold) (λ error. error) v)) c.in_err-value.ensures)

pub any_share-requires : goal.any_share-requires
any_share-requires c =
    let plan = c.args.plan.now in
    let of = c.members_of-members.ensures in
    some_at_hand c.args.set.now c.are_a_share_set.ensures plan.group_threshold plan.groups.items plan.is_plan (c.args.group, c.args.member)
    c.members_of-members.result of.is_group of.low of.low_member c.in_ok-value.value.items c.in_ok-value.ensures

pub like-requires-clause-length : goal.like-requires-clause-length
like-requires-clause-length c =
    let plan = c.args.plan.now in
    let of = c.members_of-members.ensures in
    ap length c.as_slice.ensures.value
    ∙ (value_like c.args.set.now c.are_a_share_set.ensures plan.group_threshold plan.groups.items plan.is_plan (c.args.group, c.args.member)
    c.members_of-members.result of.is_group of.low of.low_member c.in_ok-value.value.items c.in_ok-value.ensures).0
    ∙ sym (All-contains (λ s. length s.value.items ≡ value_bytes_of c.args.set.now) c.args.set.now c.any_share.result.now
    (values_agree c.args.set.now c.are_a_share_set.ensures) c.any_share.ensures)

pub returns : goal.returns
returns c =
    let plan = c.args.plan.now in
    let set = c.args.set.now in
    let of = c.members_of-members.ensures in
    let name : ℕ × ℕ = (c.args.group, c.args.member) in
    let threshold = c.members_of-members.result.threshold in
    let value = c.in_ok-value.value.items in
    let among = has_first set c.are_a_share_set.ensures plan.group_threshold plan.groups.items plan.is_plan name c.members_of-members.result
    of.is_group of.low of.low_member value c.in_ok-value.ensures in
    ap (option_map (missing_share set plan.group_threshold plan.groups.items name)) of.members
    ∙ ap (λ v. Some (result_map_both (share_like (first_of set) name threshold) (λ error. error) v)) c.in_ok-value.ensures
    ∙ ap (λ s. Some (Ok s))
    (alike set c.are_a_share_set.ensures (first_of set) c.any_share.result.now name threshold value among c.any_share.ensures
    ∙ ap (share_like c.any_share.result.now name threshold) (sym c.as_slice.ensures.value) ∙ sym c.like.ensures)
