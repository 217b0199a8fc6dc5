use Rattle.s39_split.specs.Shares.{bytes_of}
use Rattle.s39_backup.specs.Building.{AreCreatedBefore}
use Rattle.s39_backup.proofs.creation.push_groups.Given as goal

abbrev pub invariant-loop-group : goal.invariant-loop-group
invariant-loop-group l = AreCreatedBefore l.header.params l.header.group_threshold l.header.group_count l.groups
    (bytes_of l.group_shares) l.random l.group l.rest l.out
