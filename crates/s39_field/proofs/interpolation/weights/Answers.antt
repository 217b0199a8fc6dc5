use Rattle.std.proofs.Common.{◌≡◌, ◌≢◌, ℕ, ◌<◌, List, length, get_or, remove, zip, sym, ap, ap₂, ◌∙◌, subst, arith}
use Rattle.std.proofs.Common.{below_more, get_or-set_other, get_or-set_same}
use Rattle.std.proofs.lemmas.List.{get_or_default}
use Rattle.std.proofs.lemmas.List.FromFn.{fill_by_all}
use Rattle.s39_field.specs.FieldProduct.{byte_field, byte_modulus, product_modulo}
use Rattle.s39_field.specs.Interpolation.{Interpolates, differences, weight, weighted_sum}
use Rattle.s39_field.specs.Theory.Powers.{byte_field_is_field}
use Rattle.s39_field.proofs.Differences.{remove-past}
use Rattle.s39_field.proofs.LagrangeWeights.{denominator-nonzero, weights_interpolate}
use Rattle.s39_field.proofs.interpolation.weights.Goals as goal

-- the denominator, by the place that the definition reads
denominator : (xs : List ℕ) (i first result : ℕ)
    → first ≡ get_or xs i first
    → i < length xs
    → result ≡ differences byte_field first (remove xs i)
    → result ≡ differences byte_field (get_or xs i 0) (remove xs i)
denominator xs i first result read below is =
    is ∙ ap (λ x. differences byte_field x (remove xs i)) (read ∙ get_or_default xs i first 0 below)

pub product_without-numerator-requires : goal.product_without-numerator-requires
product_without-numerator-requires c =
    let xs = c.args.xs.now in
    record {
      whole = c.product_of_differences-whole.ensures.product
          ∙ ap (differences byte_field c.args.at) (remove-past xs (length xs) (omega arith));
      within = omega arith;
    }

pub inv-requires : goal.inv-requires
inv-requires c =
    let below : c.loop-i.i < length c.args.xs.now = omega arith in
    let found = c.product_of_differences-denominator in
    let is = denominator c.args.xs.now c.loop-i.i c.index-xs-i.result found.result c.index-xs-i.is below found.ensures.product in
    λ e. denominator-nonzero byte_field byte_field_is_field c.args.xs.now found.ensures.elements c.requires.distinct c.loop-i.i below (sym is ∙ e)

pub loop-i-preserved : goal.loop-i-preserved
loop-i-preserved c =
    let i = c.loop-i.i in
    let out = c.loop-i.out in
    let within : i < length c.args.xs.now = omega arith in
    let found = c.product_of_differences-denominator in
    let is = denominator c.args.xs.now i c.index-xs-i.result found.result c.index-xs-i.is within found.ensures.product in
    let weight_is : c.mul.result ≡ weight byte_field c.args.xs.now c.args.at i =
    c.mul.ensures.product
    ∙ ap₂ (product_modulo byte_modulus) c.product_without-numerator.ensures
    (c.inv.ensures.inverse ∙ ap byte_field.inv is) in
    record {
      filled = below_more _ _
          (λ k h. let other : k ≢ i = omega arith in rw get_or-set_other (c.loop-i.invariant.filled k h))
          (let below : i < length out = omega arith in rw get_or-set_same weight_is);
      elements = λ _. c.product_of_differences-denominator.ensures.elements;
    }

pub returns : goal.returns
returns c =
    let xs = c.args.xs.now in
    let size : length c.loop-i.out ≡ length xs = omega arith in
    let are = fill_by_all (weight byte_field xs c.args.at) c.loop-i.out (length xs) 0 size (λ k below. c.loop-i.invariant.filled k (omega arith)) in
    record {
      weights = are;
      interpolates = λ values bytes same.
          subst (λ ws. Interpolates byte_field (zip xs values) c.args.at (weighted_sum byte_field ws values)) (sym are)
          (weights_interpolate byte_field byte_field_is_field xs values c.args.at
          (λ k d below. c.loop-i.invariant.elements (omega arith) k d below) bytes c.requires.distinct same);
    }
