use Rattle.std.proofs.Common.{◌≡◌, ◌+◌, ◌*◌, ◌≤◌, take, sum_by}
use Rattle.s39_split.specs.Sharing.{random_needed as level_random_needed, most_random_bytes}
use Rattle.s39_backup.specs.Created.{identifier_length}
use Rattle.s39_backup.proofs.plan.Plan.random_needed.Given as goal

abbrev pub invariant-loop-members : goal.invariant-loop-members
invariant-loop-members l = record {
  so_far : l.needed ≡ identifier_length + level_random_needed l.self.group_threshold l.n_bytes
      + sum_by (λ members. level_random_needed members.threshold l.n_bytes) (take l.members-index l.members-items);
  few : l.needed ≤ identifier_length + most_random_bytes * (l.members-index + 1);
}
