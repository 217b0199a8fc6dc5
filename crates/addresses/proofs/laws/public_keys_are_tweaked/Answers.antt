use Rattle.std.proofs.Common.{ℕ, ◌<◌, ◌^◌, List, Option, None, cond, ltb, ap, ◌∙◌, arith, lit<}
use Rattle.std.specs.Int.{bytes_high_first}
use Rattle.std.specs.Option.{option_and_then}
use Rattle.curve_field.specs.Field.{prime}
use Rattle.curve_field.specs.Order.{order}
use Rattle.curve_field.proofs.WordBytes.{number_of_bytes}
use Rattle.curve_points.specs.declared.point.Affine.{Affine}
use Rattle.curve_points.specs.declared.point.Point.TheVariants.{Finite}
use Rattle.curve_points.specs.Points.{sum_of}
use Rattle.curve_points.specs.Multiples.{public_point}
use Rattle.curve_points.specs.Lifted.{lift_x}
use Rattle.curve_points.proofs.Roots.{lifted}
use Rattle.addresses.specs.Taproot.{tweak, x_only, output_key}
use Rattle.addresses.proofs.laws.public_keys_are_tweaked.Goals as goal

pub returns : goal.returns
unfolding output_key
returns c a on =
    let key = bytes_high_first 32 a.x in
    let tweaked : Affine → Option (List ℕ) = λ p. x_only (sum_of (Finite p) (public_point (tweak key))) in
    let limit : prime < 256 ^ 32 = lit< tt in
    let number = number_of_bytes a.x (omega (arith, on.x_below)) in
    ap (λ p. cond (ltb (tweak key) order) (option_and_then tweaked p) None) (ap lift_x number ∙ lifted a on)
