use Rattle.std.proofs.Common.{◌≡◌, ◌<◌, ◌^◌}
use Rattle.s39_field.specs.BinaryPolynomial.{binary_sum}
use Rattle.s39_field.specs.FieldProduct.{product_modulo}
use Rattle.s39_field.proofs.modulus.Modulus.product.Given as goal

-- the sum so far, and what is left of the product
abbrev pub invariant-loop-rest : goal.invariant-loop-rest
invariant-loop-rest l = record {
  shifted_element : l.shifted < 2 ^ l.self.degree;
  sum_element : l.sum < 2 ^ l.self.degree;
  together : binary_sum l.sum (product_modulo l.self l.shifted l.rest) ≡ product_modulo l.self l.fn.a l.fn.b;
}

abbrev pub decreases-loop-rest : goal.decreases-loop-rest
decreases-loop-rest l = l.rest
