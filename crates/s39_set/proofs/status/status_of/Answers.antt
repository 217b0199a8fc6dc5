use Rattle.std.proofs.Common.{◌≡◌, ℕ, length, map, Some, ap, ◌∙◌}
use Rattle.std.specs.Option.{option_map}
use Rattle.s39_set.specs.Groups.{complete_groups}
use Rattle.s39_set.specs.ShareSet.{name_of}
use Rattle.s39_set.specs.Quorums.{member_threshold_of}
use Rattle.s39_set.specs.declared.status.Status.{Status}
use Rattle.s39_set.proofs.StepOf.{groups_from_complete}
use Rattle.s39_set.proofs.status.status_of.Goals as goal

-- a status with this group threshold
with_required : ℕ → ℕ → Status
with_required complete required = record { complete = complete; required = required }

pub returns : goal.returns
unfolding with_required
returns c =
    let set = c.args.set.now in
    let all = length (complete_groups (member_threshold_of set) (map name_of set)) in
    let complete : c.count_groups-complete.result ≡ all =
    c.count_groups-complete.ensures ∙ ap length (groups_from_complete set c.are_a_share_set.ensures c.of-context.result c.of-context.ensures.knows.complete) in
    ap (λ (n : ℕ). Some (with_required n c.in-Some.required)) complete
    ∙ ap (option_map (with_required all)) c.in-Some.ensures
