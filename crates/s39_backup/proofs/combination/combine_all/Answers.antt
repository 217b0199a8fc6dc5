use Rattle.std.proofs.Common.{ap, ◌∙◌}
use Rattle.s39_split.specs.Recovery.{combined}
use Rattle.s39_backup.proofs.Combining.{level-points, points-one_length, points-long}
use Rattle.s39_backup.proofs.combination.combine_all.Goals as goal

pub combine-requires-clause-distinct : goal.combine-requires-clause-distinct
combine-requires-clause-distinct c = rw c.as_slice.ensures c.requires.1.distinct

pub combine-requires-clause-indices : goal.combine-requires-clause-indices
combine-requires-clause-indices c = rw c.as_slice.ensures c.requires.1.indices

pub combine-requires-clause-one_length : goal.combine-requires-clause-one_length
combine-requires-clause-one_length c =
    rw c.as_slice.ensures (points-one_length c.requires.0 c.args.shares.now (level-points c.requires.0 c.args.shares.now c.requires.1))

pub combine-requires-clause-long : goal.combine-requires-clause-long
combine-requires-clause-long c =
    rw c.as_slice.ensures (points-long c.requires.0 c.args.shares.now (level-points c.requires.0 c.args.shares.now c.requires.1))

pub returns : goal.returns
returns c = c.combine.ensures.combined ∙ ap combined c.as_slice.ensures
