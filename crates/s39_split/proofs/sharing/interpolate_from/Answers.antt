use Rattle.std.proofs.Common.{◌+◌, arith}
use Rattle.s39_field.specs.Interpolation.{InterpolatesBytes}
use Rattle.s39_split.specs.Shares.{indexed_bytes}
use Rattle.s39_split.proofs.Splits.{each_more}
use Rattle.s39_split.proofs.sharing.interpolate_from.Goals as goal

pub loop-i-preserved : goal.loop-i-preserved
loop-i-preserved c =
    let long = c.loop-i.auto.shares in
    each_more (λ k share. InterpolatesBytes (indexed_bytes c.args.points.now) (c.args.first + k) share) c.loop-i.shares c.loop-i.i c.interpolate.result
    (omega arith) c.loop-i.invariant c.interpolate.ensures.value
