-- How the texts of plans are read. No public contract cites this.
use Rattle.std.specs.Prelude.{◌≡◌, ◌≢◌, ℕ, List, [], All, length, map, take}
use Rattle.std.specs.Fmt.{decimal}
use Rattle.s39_set.specs.Names.{most_groups}
use Rattle.s39_backup.specs.declared.plan.Members.{Members}
use Rattle.s39_backup.specs.declared.plan_text.GroupList.{GroupList}
use Rattle.s39_backup.specs.Plan.{IsPlanNumber, members_text, groups_text, HasPlanForm}

-- the text is the decimal form of this number
pub record IsNumberText (text : List ℕ) (n : ℕ) : Type 0 where
  pub number : IsPlanNumber n
  pub text_is : text ≡ decimal n

-- both numbers of a group are numbers of a plan's text
abbrev pub HasPlanNumbers : Members → Type 0
HasPlanNumbers members = IsPlanNumber members.threshold × IsPlanNumber members.count

-- the text is `TofN`
pub record IsMembersText (text : List ℕ) (members : Members) : Type 0 where
  pub numbers : HasPlanNumbers members
  pub text_is : text ≡ members_text members

-- the text is the one of these groups
pub record IsGroupsText (text : List ℕ) (groups : List Members) : Type 0 where
  pub some : groups ≢ []
  pub thresholds : All (λ members. IsPlanNumber members.threshold) groups
  pub counts : All (λ members. IsPlanNumber members.count) groups
  pub text_is : text ≡ groups_text groups

-- the list has the number of these groups, and the first sixteen of them
pub record IsListOf (list : GroupList) (groups : List Members) : Type 0 where
  pub count : list.count ≡ length groups
  pub first : list.first.items ≡ take most_groups groups

-- these parts of a text are groups, and the list has them
pub record AreListed (parts : List (List ℕ)) (list : GroupList) : Type 0 where
  pub groups : List Members
  pub numbers : All HasPlanNumbers groups
  pub parts_are : map members_text groups ≡ parts
  pub is_list : IsListOf list groups

-- a text of groups, and the list of them
pub record ListsGroupsOf (text : List ℕ) (list : GroupList) : Type 0 where
  pub groups : List Members
  pub is_text : IsGroupsText text groups
  pub is_list : IsListOf list groups

-- a text of the form of a plan, its group threshold, and the list of its groups
pub record ListsPlanOf (text : List ℕ) (form : ℕ × GroupList) : Type 0 where
  pub groups : List Members
  pub has_form : HasPlanForm text form.0 groups
  pub is_list : IsListOf form.1 groups
