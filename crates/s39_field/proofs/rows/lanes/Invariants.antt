use Rattle.std.proofs.Common.{◌≡◌, map, ◌/◌, ◌%◌, ◌^◌}
use Rattle.s39_field.specs.FieldProduct.{byte_field}
use Rattle.s39_field.proofs.rows.lanes.Given as goal

-- the products of w with the digits of each lane so far and with the next digit's power of x, and the digits that are left
abbrev pub invariant-loop : goal.invariant-loop
invariant-loop l = record {
  sum_is : l.sum ≡ map (λ x. byte_field.mul l.fn.w (x % 2 ^ l.counter)) l.fn.row;
  shifted_is : l.shifted ≡ map (λ x. byte_field.mul l.fn.w (2 ^ l.counter)) l.fn.row;
  rest_is : l.rest ≡ map (λ x. x / 2 ^ l.counter) l.fn.row;
}
