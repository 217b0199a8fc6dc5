use Rattle.std.proofs.Common.{◌≡◌, ◌<◌, ◌==◌, length, get_or, take, arith}
use Rattle.std.proofs.lemmas.List.{length-take-le}
use Rattle.std.proofs.lemmas.List.Sums.{length-filter, count_by-le-length}
use Rattle.s39_set.specs.Names.{names_in_group, most_groups}
use Rattle.s39_set.proofs.quorum.members_of_groups.Goals as goal

pub overflow_add-counts : goal.overflow_add-counts
overflow_add-counts c =
    let names = c.args.names.now in
    let group = c.from.result in
    let below : (get_or names c.loop-group.group-index (0, 0)).0 < most_groups = c.requires.groups c.loop-group.group-index (0, 0) c.loop-group-test.true in
    let here : get_or c.loop-group.counts group 0 ≡ length (names_in_group group (take c.loop-group.group-index names)) =
    c.loop-group.invariant.counted group (omega arith) in
    let past = take c.loop-group.group-index names in
    omega (
      arith,
      length-filter (λ name. name.0 == group) past,
      count_by-le-length (λ name. name.0 == group) past,
      length-take-le c.loop-group.group-index names
          (omega arith),
    )
