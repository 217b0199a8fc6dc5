-- Plans with more members.
use Rattle.std.specs.Prelude.{◌≡◌, ◌↔◌, ◌≤◌, List, Contains}
use Rattle.std.specs.List.{AllZip}
use Rattle.s39_words.specs.declared.share.ShareFields.{ShareFields}
use Rattle.s39_set.specs.ShareSet.{name_of}
use Rattle.s39_backup.specs.declared.plan.Members.{Members}
use Rattle.s39_backup.specs.Plan.{IsNameOfPlan}

-- there are as many groups, with the same thresholds, and none of them has fewer members
abbrev pub HaveMoreMembers : List Members → List Members → Type 0
HaveMoreMembers groups larger =
    AllZip (λ members more. (members.threshold ≡ more.threshold) × (members.count ≤ more.count)) groups larger

-- The shares of a backup of a plan with these groups are those of another backup whose names this plan has. Both stand
-- by group, then member, so each group of the other begins with the same shares.
abbrev pub ArePartOf : List Members → List ShareFields → List ShareFields → Type 0
ArePartOf groups shares others =
    (share : ShareFields) → (Contains shares share ↔ (Contains others share × IsNameOfPlan groups (name_of share)))
