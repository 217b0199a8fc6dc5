use Rattle.std.proofs.Common.{◌+◌, ◌≤◌, length, arith}
use Rattle.s39_field.proofs.VectorSums.{summed_more, rest_less}
use Rattle.s39_field.proofs.rows.scaled_sum_of_vectors.Goals as goal

pub loop-acc-preserved : goal.loop-acc-preserved
loop-acc-preserved c =
    let acc = c.loop-acc.acc in
    let done = c.loop-acc.done in
    let row = c.args.row.now in
    let before = c.loop-acc.invariant in
    let room : done + 16 ≤ length acc = omega arith in
    let also_room : done + 16 ≤ length row = omega arith in
    rw c.lanes-product.ensures record {
      within = omega arith;
      summed = summed_more c.args.w 16 done acc row room also_room c.args.acc.now before.summed before.rest;
      rest = rest_less c.args.w 16 done acc row room also_room c.args.acc.now before.rest;
    }
