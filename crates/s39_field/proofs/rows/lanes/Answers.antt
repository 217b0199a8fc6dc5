use Rattle.std.proofs.Common.{◌≡◌, ◌%◌, ◌^◌, ℕ, map, replicate, ap, ◌∙◌, arith}
use Rattle.s39_field.specs.FieldProduct.{byte_field}
use Rattle.s39_field.proofs.ByLane.{no_digits, not_shifted, all_left, all_digits, shifted_more, rest_less, sum_more}
use Rattle.s39_field.proofs.rows.lanes.Goals as goal

pub loop-init : goal.loop-init
loop-init c = record {
  sum_is = no_digits c.args.w 16 c.args.row c.fits-row.0;
  shifted_is = ap (λ (b : ℕ). replicate 16 b) c.from-shifted.ensures ∙ not_shifted c.args.w 16 c.args.row (omega arith) c.fits-row.0;
  rest_is = all_left c.args.row;
}

pub loop-preserved : goal.loop-preserved
loop-preserved c =
    let w = c.args.w in
    let k = c.loop.counter in
    let row = c.args.row in
    let before = c.loop.invariant in
    record {
      sum_is = sum_more w k 16 row c.fits-row.0 before.sum_is before.shifted_is before.rest_is;
      shifted_is = shifted_more w k row before.shifted_is c.doubled_lanes-shifted.ensures;
      rest_is = rest_less k 16 row c.fits-row.0 before.rest_is;
    }

pub returns : goal.returns
returns c =
    let end : c.loop.counter ≡ 8 = omega arith in
    c.loop.invariant.sum_is
    ∙ ap (λ k. map (λ x. byte_field.mul c.args.w (x % 2 ^ k)) c.args.row) end
    ∙ all_digits c.args.w c.args.row c.fits-row.1
