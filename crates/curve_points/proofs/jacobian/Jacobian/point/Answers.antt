use Rattle.std.proofs.Common.{◌≡◌, ◌-◌, ◌∙◌, ap₂, arith}
use Rattle.curve_field.specs.Field.{prime, power, ◌⊗◌}
use Rattle.curve_points.specs.declared.point.Point.TheVariants.{Finite}
use Rattle.curve_points.proofs.Added.{finished}
use Rattle.curve_points.proofs.jacobian.Jacobian.point.Goals as goal

pub returns : goal.returns
returns c = λ p j.
    let X = c.args.self.now.x in
    let Y = c.args.self.now.y in
    let Z = c.args.self.now.z in
    let flag : c.zero_flag.result ≡ 0 = omega (arith, c.zero_flag.ensures.below) in
    let z = c.zero_flag.ensures.zero flag in
    let w = power Z (prime - 2) in
    let x : c.mul-x.result ≡ X ⊗ (w ⊗ w) = cc in
    let y : c.mul-y.result ≡ Y ⊗ ((w ⊗ w) ⊗ w) = cc in
    ap₂ (λ i k. Finite (record { x = i; y = k })) x y ∙ finished X Y Z p z j
