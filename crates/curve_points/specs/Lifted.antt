-- Points by their x: BIP-340, section "Specification", `lift_x`.
use Rattle.std.specs.Prelude.{ℕ, ◌+◌, ◌-◌, ◌/◌, ◌%◌, Option, Some, None, nat_eq, nat_lt, if◌then◌else◌}
use Rattle.curve_field.specs.Field.{prime, power, ◌⊕◌, ◌⊗◌}
use Rattle.curve_points.specs.declared.point.Affine.{Affine}

-- c, which is x^3 + 7
abbrev pub curve_at : ℕ → ℕ
curve_at x = (x ⊗ (x ⊗ x)) ⊕ 7

-- y, a square root of c if it has one
abbrev pub root : ℕ → ℕ
root c = power c ((prime + 1) / 4)

-- y if it is even, and else p - y
abbrev pub even : ℕ → ℕ
even y = if nat_eq (y % 2) 0 then y else prime - y

-- the point with this x and an even y. There is none if x isn't below p, or y^2 isn't c.
unfoldable pub lift_x : ℕ → Option Affine
lift_x x =
    if nat_lt x prime
    then (if nat_eq (root (curve_at x) ⊗ root (curve_at x)) (curve_at x)
    then Some (record { x = x; y = even (root (curve_at x)) })
    else None)
    else None
