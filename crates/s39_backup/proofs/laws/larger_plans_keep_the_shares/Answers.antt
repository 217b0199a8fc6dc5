use Rattle.s39_backup.proofs.LargerPlans.{needed_alike, part_of_larger}
use Rattle.std.proofs.Common.{◌∙◌}
use Rattle.s39_backup.proofs.laws.larger_plans_keep_the_shares.Goals as goal

pub returns-clause-exists : goal.returns-clause-exists
returns-clause-exists c = λ asked larger random plan more long bytes random_bytes number.
    c.every_backup_can_be_created.ensures (record asked { groups = larger }) random plan long bytes random_bytes
    (number ∙ needed_alike asked.group_threshold asked.groups larger _ more)

pub returns-clause-part : goal.returns-clause-part
returns-clause-part c = λ asked larger random shares others plan more created also.
    part_of_larger c.first_shares.ensures asked larger random shares others plan.each more created also (c.one_created_backup.ensures asked random)
