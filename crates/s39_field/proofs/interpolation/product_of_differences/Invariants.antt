use Rattle.std.proofs.Common.{◌≡◌, ◌<◌, take, remove, All}
use Rattle.s39_field.specs.FieldProduct.{byte_field}
use Rattle.s39_field.specs.Interpolation.{differences}
use Rattle.s39_field.proofs.interpolation.product_of_differences.Given as goal

-- the product over the places so far, and what the sums told of the type's values
abbrev pub invariant-loop-i : goal.invariant-loop-i
invariant-loop-i l = record {
  product_is : l.product ≡ differences byte_field l.x (remove (take l.i l.places) l.except);
  elements : All (λ place. place < 256) (take l.i l.places);
}
