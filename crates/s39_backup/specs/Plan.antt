-- Plans, and the texts that give them.
use Rattle.std.specs.Prelude.{◌≡◌, ◌⊎◌, ◌≢◌, ℕ, ◌<◌, ◌≤◌, ◌==◌, ◌&&◌, not, nat_lt, nat_le, if◌then◌else◌, List, [], ◌++◌, All, codes, length, map}
use Rattle.std.specs.Prelude.{Result, Ok, Err, IsSomeAnd}
use Rattle.std.specs.List.{join_with_byte, slice_get, enumerate_from}
use Rattle.std.specs.Result.{result_map_both}
use Rattle.std.specs.Fmt.{decimal}
use Rattle.s39_refusal.specs.declared.cause.Cause.{Cause}
use Rattle.s39_refusal.specs.Causes.{cause}
use Rattle.s39_lists.specs.Each.{each}
use Rattle.s39_set.specs.Names.{Name, most_groups, most_members}
use Rattle.s39_backup.specs.declared.plan.Members.{Members}
use Rattle.s39_backup.specs.declared.plan_error.PlanError.{PlanError}
use Rattle.s39_backup.specs.declared.plan_error.PlanError.TheVariants.{BadPlan, PlanGroups, PlanMembers, OneOfMany}

-- a group has at most 16 members, and at least as many as its threshold
pub record HasEnoughMembers (members : Members) : Type 0 where
  pub few : members.count ≤ most_members
  pub enough : members.threshold ≤ members.count

-- one of several members is enough, so that each of them is the group's share
abbrev pub IsOneOfMany : Members → Type 0
IsOneOfMany members = (members.threshold ≡ 1) × (1 < members.count)

-- the members of a group in a plan
pub record IsGroup (members : Members) : Type 0 where
  pub positive : 1 ≤ members.threshold
  pub enough : HasEnoughMembers members
  pub not_one_of_many : ¬ IsOneOfMany members

-- there are at most 16 groups, and at least as many as the group threshold
pub record HasEnoughGroups (group_threshold : ℕ) (groups : List Members) : Type 0 where
  pub few : length groups ≤ most_groups
  pub enough : group_threshold ≤ length groups

-- a plan: how many groups are needed, and the members of each group (SLIP-0039, "Generating the shares")
pub record IsPlan (group_threshold : ℕ) (groups : List Members) : Type 0 where
  pub positive : 1 ≤ group_threshold
  pub enough : HasEnoughGroups group_threshold groups
  pub each : All IsGroup groups

-- a plan has a share with this name
abbrev pub IsNameOfPlan : List Members → Name → Type 0
IsNameOfPlan groups name = IsSomeAnd (slice_get groups name.0) (λ members. name.1 < members.count)

-- ---- texts

-- a number of one or two digits that doesn't begin with 0
pub record IsPlanNumber (n : ℕ) : Type 0 where
  pub positive : 1 ≤ n
  pub short : n < 100

-- `TofN`
abbrev pub members_text : Members → List ℕ
members_text members = decimal members.threshold ++ (codes "of" ++ decimal members.count)

-- the texts of groups, joined by commas
abbrev pub groups_text : List Members → List ℕ
groups_text groups = join_with_byte 44 (map members_text groups)

-- The text is `TofN`, which is one group with the group threshold 1, or `GT/T1ofN1,T2ofN2,..`, whatever the numbers.
pub record HasPlanForm (text : List ℕ) (group_threshold : ℕ) (groups : List Members) : Type 0 where
  pub some : groups ≢ []
  pub threshold_number : IsPlanNumber group_threshold
  pub thresholds : All (λ members. IsPlanNumber members.threshold) groups
  pub counts : All (λ members. IsPlanNumber members.count) groups
  pub written : (text ≡ decimal group_threshold ++ (codes "/" ++ groups_text groups))
      ⊎ ((group_threshold ≡ 1) × (length groups ≡ 1) × (text ≡ groups_text groups))

-- what is read from a text that has the form of a plan: the group threshold, and the members of each group
pub record PlanForm (text : List ℕ) : Type 0 where
  pub group_threshold : ℕ
  pub groups : List Members
  pub form : HasPlanForm text group_threshold groups

-- a group, which stands here with its place, counted from 0, or the first cause for which a plan can't have it
abbrev pub judged_group : ℕ × Members → Result Members PlanError
judged_group group =
    if not (nat_le group.1.count most_members && nat_le group.1.threshold group.1.count) then Err (PlanMembers group.0)
    else if (group.1.threshold == 1) && nat_lt 1 group.1.count then Err (OneOfMany group.0)
    else Ok group.1

-- the groups with a group threshold
abbrev pub with_threshold : ℕ → Result (List Members) PlanError → Result (ℕ × List Members) PlanError
with_threshold threshold groups = result_map_both (λ gs. (threshold, gs)) (λ error. error) groups

-- a group threshold and groups, or the first cause for which they are no plan: the number of groups; and then, group by
-- group, the number of members, and one of many
abbrev pub judged : ℕ × List Members → Result (ℕ × List Members) PlanError
judged plan =
    if nat_le (length plan.1) most_groups && nat_le plan.0 (length plan.1)
    then with_threshold plan.0 (each judged_group (enumerate_from 0 plan.1))
    else Err PlanGroups

-- What a text is read as: the group threshold and the groups of a plan, or the first cause that applies: another form,
-- or what is judged of its numbers.
abbrev pub IsPlanReading : List ℕ → Result (ℕ × List Members) PlanError → Type 0
IsPlanReading text (Ok plan) = HasPlanForm text plan.0 plan.1 × IsPlan plan.0 plan.1
IsPlanReading text (Err BadPlan) = ¬ PlanForm text
IsPlanReading text (Err error) = (read : PlanForm text) × (judged (read.group_threshold, read.groups) ≡ Err error)

-- a text is read as this, and as nothing else
pub record IsOnlyReading (text : List ℕ) (answer : Result (ℕ × List Members) PlanError) : Type 0 where
  pub reading : IsPlanReading text answer
  pub only : (other : Result (ℕ × List Members) PlanError) → IsPlanReading text other → other ≡ answer

-- what a refusal says
abbrev pub plan_cause_of : PlanError → Cause
plan_cause_of BadPlan = cause 31 0 0
plan_cause_of PlanGroups = cause 32 0 0
plan_cause_of (PlanMembers group) = cause 33 group 0
plan_cause_of (OneOfMany group) = cause 34 group 0
