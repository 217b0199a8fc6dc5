use Rattle.std.proofs.Common.{ap, ◌∙◌}
use Rattle.s39_split.specs.Completion.{completed}
use Rattle.s39_backup.proofs.Combining.{points-one_length, points-long}
use Rattle.s39_backup.proofs.missing_share.complete_all.Goals as goal

pub complete-requires-clause-distinct : goal.complete-requires-clause-distinct
complete-requires-clause-distinct c = rw c.as_slice.ensures c.requires.1.distinct

pub complete-requires-clause-places : goal.complete-requires-clause-places
complete-requires-clause-places c = rw c.as_slice.ensures c.requires.1.places

pub complete-requires-clause-one_length : goal.complete-requires-clause-one_length
complete-requires-clause-one_length c = rw c.as_slice.ensures (points-one_length c.requires.0 c.args.points.now c.requires.1)

pub complete-requires-clause-long : goal.complete-requires-clause-long
complete-requires-clause-long c = rw c.as_slice.ensures (points-long c.requires.0 c.args.points.now c.requires.1)

pub returns : goal.returns
returns c = c.complete.ensures.completed ∙ ap (λ points. completed points c.args.index) c.as_slice.ensures
