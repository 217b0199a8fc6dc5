use Rattle.s39_field.proofs.ByLane.{doubled_by_lanes}
use Rattle.s39_field.proofs.rows.doubled_lanes.Goals as goal

pub returns : goal.returns
returns c = doubled_by_lanes 16 c.args.row c.fits-row
