use Rattle.std.proofs.Common.{◌<◌, ℕ, length, take, ◌∙◌, arith}
use Rattle.std.proofs.lemmas.Bool.{leb-true}
use Rattle.std.proofs.lemmas.List.{length-take-le}
use Rattle.std.proofs.lemmas.List.Elements.{All-contains}
use Rattle.std.specs.Prelude.{◌≡◌, true}
use Rattle.s39_lists.proofs.Each.{each-length}
use Rattle.s39_backup.specs.declared.plan.Members.{Members}
use Rattle.s39_backup.specs.Plan.{IsGroup}
use Rattle.s39_backup.specs.GroupShares.{value_bytes_of}
use Rattle.s39_backup.specs.Reissue.{members_at_hand, least_members, is_at_hand, other_groups, least_share}
use Rattle.s39_backup.proofs.Combining.{combined_is, completed_is}
use Rattle.s39_backup.proofs.OtherGroups.{others_complete, group_level, least_bytes, shares_level, shares_bytes}
use Rattle.s39_backup.proofs.Points.{low_name, points_good}
use Rattle.s39_backup.proofs.laws.reissues_complete_by_the_standard.Goals as goal

pub returns-clause-points : goal.returns-clause-points
returns-clause-points c = λ set group_threshold groups name members points outcome is plan named at here.
    let (low, low_member, is_group) = low_name group_threshold groups name.0 name.1 members plan at named in
    let good = points_good set is group_threshold groups plan name members is_group low low_member points here in
    completed_is (value_bytes_of set) points good.0 good.1 members.threshold good.2 name.1 outcome

pub returns-clause-group_shares : goal.returns-clause-group_shares
returns-clause-group_shares c = λ set group_threshold groups group shares outcome is plan enough all.
    let few = plan.enough.few in
    let most = plan.enough.enough in
    let positive = plan.positive in
    let others = take group_threshold (other_groups set groups group) in
    let number = length-take-le group_threshold (other_groups set groups group) enough in
    let complete = others_complete set group groups plan.each few group_threshold enough (omega arith) in
    let some : 0 < length others = omega arith in
    completed_is (value_bytes_of set) shares (shares_level set is others complete some shares all) (shares_bytes set is others complete some shares all)
    group_threshold (each-length (least_share set) others shares all ∙ number) group outcome

pub returns-clause-members : goal.returns-clause-members
returns-clause-members c = λ set group_threshold groups group other outcome is plan enough among.
    let few = plan.enough.few in
    let most = plan.enough.enough in
    let others = take group_threshold (other_groups set groups group) in
    let complete = others_complete set group groups plan.each few group_threshold enough (omega arith) in
    let is_group = All-contains (λ (g : ℕ × Members). IsGroup g.1) others other complete.are_groups among in
    let at_hand = leb-true other.1.threshold (length (members_at_hand set other.0))
    (All-contains (λ (g : ℕ × Members). is_at_hand set g ≡ true) others other complete.at_hand among) in
    combined_is (value_bytes_of set) (least_members set other) (group_level set is other is_group at_hand) (least_bytes set is other is_group at_hand)
    other.1.threshold (length-take-le other.1.threshold (members_at_hand set other.0) at_hand) outcome
