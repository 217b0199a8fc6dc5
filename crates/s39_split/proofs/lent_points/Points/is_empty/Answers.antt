use Rattle.s39_split.proofs.LentPoints.{length-standing}
use Rattle.std.proofs.Common.{◌==◌, ap}
use Rattle.s39_split.proofs.lent_points.Points.is_empty.Goals as goal

pub returns : goal.returns
returns c =
    ap (λ n. n == 0) (length-standing c.self.inside.row c.self.inside.len c.args.self.now
    c.self.invariant.0 c.self.invariant.1 c.self.invariant.2 c.self.view_is)
