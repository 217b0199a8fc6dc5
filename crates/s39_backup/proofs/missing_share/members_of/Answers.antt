use Rattle.std.proofs.Common.{◌≡◌, ℕ, ◌<◌, List, length, Some, refl, sym, subst}
use Rattle.std.specs.List.{slice_get}
use Rattle.std.proofs.lemmas.Bool.{ltb-true}
use Rattle.std.proofs.lemmas.Option.{slice_get_read}
use Rattle.s39_set.specs.Names.{most_groups, most_members}
use Rattle.s39_backup.specs.declared.plan.Members.{Members}
use Rattle.s39_backup.specs.Plan.{IsGroup}
use Rattle.s39_backup.proofs.Points.{low_name}
use Rattle.s39_backup.proofs.missing_share.members_of.Goals as goal
use Rattle.s39_backup.proofs.missing_share.members_of.Goals.{In-Some}

its_group : (c : In-Some) → (c.args.group < most_groups) × (c.args.member < most_members) × IsGroup c.in-Some.members.now
its_group c =
    let plan = c.args.plan.now in
    let groups = c.deref.result.now in
    let members = c.in-Some.members.now in
    let item = c.in-Some.ensures.lookup in
    let here : slice_get groups c.from.result ≡ Some members =
    slice_get_read groups (length groups) c.from.result members refl (ltb-true c.from.result (length groups) (sym item.0)) item.1 in
    let at : slice_get plan.groups.items c.args.group ≡ Some members =
    subst (λ (gs : List Members). slice_get gs c.args.group ≡ Some members) c.deref.ensures.0
    (subst (λ (i : ℕ). slice_get groups i ≡ Some members) c.from.ensures here) in
    low_name plan.group_threshold plan.groups.items c.args.group c.args.member members plan.is_plan at c.requires

pub returns-clause-is_group : goal.returns-clause-is_group
returns-clause-is_group c = (its_group (goal.at.returns-clause-is_group c).In-Some).2

pub returns-clause-low : goal.returns-clause-low
returns-clause-low c = (its_group (goal.at.returns-clause-low c).In-Some).0

pub returns-clause-low_member : goal.returns-clause-low_member
returns-clause-low_member c = (its_group (goal.at.returns-clause-low_member c).In-Some).1
