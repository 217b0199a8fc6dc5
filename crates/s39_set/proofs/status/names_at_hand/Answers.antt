use Rattle.std.proofs.Common.{◌≤◌, ℕ, ◌++◌, length, map, filter, take, sym, ap, ◌∙◌, arith}
use Rattle.std.specs.List.{range_with_len}
use Rattle.std.proofs.lemmas.List.{take_all, length-map}
use Rattle.std.proofs.lemmas.List.FromFn.{length-range_with_len}
use Rattle.s39_set.specs.Names.{Name, Names, most_members}
use Rattle.s39_set.specs.ShareSet.{name_of}
use Rattle.s39_set.specs.Masks.{is_in}
use Rattle.s39_set.specs.Steps.{members_from}
use Rattle.s39_lists.proofs.Sublists.{length-sublist, filter_kept}
use Rattle.s39_set.proofs.SetQuorums.{members-below}
use Rattle.s39_set.proofs.FromMasks.{names_in_group_masks}
use Rattle.s39_set.proofs.status.names_at_hand.Goals as goal

pub returns : goal.returns
returns c =
    let set = c.args.set.now in
    let group = c.args.group in
    let is = c.are_a_share_set.ensures in
    let masks = c.shares_at_hand-at_hand.result in
    let members = members_from masks group 0 in
    let range = range_with_len 0 most_members in
    let pair : ℕ → Name = λ member. (group, member) in
    let few : length members ≤ most_members =
    omega (
      arith,
      length-map (filter (is_in masks group) range) pair,
      length-sublist (filter_kept (is_in masks group) range),
      length-range_with_len 0 most_members,
    ) in
    c.push_members.ensures.names
    ∙ ap (λ (names : Names). names ++ take most_members members) c.new-names.ensures
    ∙ take_all most_members members few
    ∙ sym (names_in_group_masks masks (map name_of set) c.shares_at_hand-at_hand.ensures.names (members-below set is) group c.requires is.ascending)
