use Rattle.s39_split.proofs.LentPoints.{length-standing}
use Rattle.s39_split.proofs.lent_points.Points.len.Goals as goal

pub returns : goal.returns
returns c =
    length-standing c.self.inside.row c.self.inside.len c.args.self.now c.self.invariant.0 c.self.invariant.1 c.self.invariant.2 c.self.view_is
