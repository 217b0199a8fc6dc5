use Rattle.std.proofs.Common.{length}
use Rattle.std.proofs.lemmas.Bool.{ltb-true}
use Rattle.std.specs.Prelude.{nat_lt}
use Rattle.std.specs.List.{range_with_len}
use Rattle.s39_lists.proofs.Sublists.{of_filter}
use Rattle.s39_set.specs.Names.{most_groups, names_in_group}
use Rattle.s39_backup.proofs.Levels.{members_combine, groups_combine}
use Rattle.s39_backup.proofs.laws.quorums_combine_by_the_standard.Goals as goal

pub returns-clause-groups : goal.returns-clause-groups
returns-clause-groups c = λ set names group outcome is quorum among.
    members_combine set names (record { is_set = is; exact = (c.quorums_are_exact.ensures set names is).0 quorum }) group
    (ltb-true 0 (length (names_in_group group names))
    (of_filter (λ g. nat_lt 0 (length (names_in_group g names))) (range_with_len 0 most_groups) group among).1) outcome

pub returns-clause-group_shares : goal.returns-clause-group_shares
returns-clause-group_shares c = λ set names shares outcome is quorum all.
    groups_combine set names (record { is_set = is; exact = (c.quorums_are_exact.ensures set names is).0 quorum }) shares all outcome
