use Rattle.std.proofs.Common.{◌≡◌, ℕ, ◌≤◌, map, Option, Some, None, refl, sym, ap, ◌∙◌, arith}
use Rattle.std.specs.Option.{option_map}
use Rattle.s39_set.specs.Names.{Names, names_in_group, most_members}
use Rattle.s39_set.specs.ShareSet.{name_of}
use Rattle.s39_set.specs.Quorums.{member_threshold_of}
use Rattle.s39_set.specs.declared.status.GroupStatus.{GroupStatus}
use Rattle.s39_set.proofs.SetQuorums.{member_threshold-most}
use Rattle.s39_set.proofs.counting.member_choices.Goals as goal

-- a group's status has its threshold
own_threshold : (group : ℕ) (names : Names) (threshold : Option ℕ)
    → option_map (λ (status : GroupStatus). status.threshold)
    (option_map (λ t. record { group = group; threshold = t; names = names }) threshold) ≡ threshold
own_threshold group names None = refl
own_threshold group names (Some t) = refl

pub choices-requires : goal.choices-requires
choices-requires c =
    let set = c.args.set.now in
    let group = c.args.group in
    let threshold : member_threshold_of set group ≡ Some c.in-Some.status.threshold =
    sym (own_threshold group (names_in_group group (map name_of set)) (member_threshold_of set group))
    ∙ ap (option_map (λ (status : GroupStatus). status.threshold)) (sym c.group_status_of.ensures ∙ c.in-Some.is) in
    let most : c.in-Some.status.threshold ≤ most_members = member_threshold-most set c.are_a_share_set.ensures group c.in-Some.status.threshold threshold in
    omega arith
