-- Points of secp256k1 and their sums: SEC 1, section 2.2.1, and the generator of SEC 2, section 2.4.1.
use Rattle.std.specs.Prelude.{ℕ, ◌-◌, nat_eq, if◌then◌else◌}
use Rattle.curve_field.specs.Field.{prime, power, ◌⊕◌, ◌⊖◌, ◌⊗◌}
use Rattle.curve_points.specs.declared.point.Point.{Point}
use Rattle.curve_points.specs.declared.point.Point.TheVariants.{Infinity, Finite}

-- G
abbrev pub generator_x : ℕ
generator_x = 0x79BE667E_F9DCBBAC_55A06295_CE870B07_029BFCDB_2DCE28D9_59F2815B_16F81798

abbrev pub generator_y : ℕ
generator_y = 0x483ADA77_26A3C465_5DA4FBFC_0E1108A8_FD17B448_A6855419_9C47D08F_FB10D4B8

-- a / b modulo p, by the power with which BIP-340's reference code divides
abbrev pub quotient : ℕ → ℕ → ℕ
quotient a b = a ⊗ power b (prime - 2)

-- Let the line with this slope through (x, y) meet the curve again at other_x. This is the point opposite to the third one on it.
abbrev pub on_line : ℕ → ℕ → ℕ → ℕ → Point
on_line x y other_x slope =
    let third_x : ℕ = ((slope ⊗ slope) ⊖ x) ⊖ other_x in
    Finite (record { x = third_x; y = (slope ⊗ (x ⊖ third_x)) ⊖ y })

-- The sum of two points: rules 1 and 2 of SEC 1, then 3 and 5 for points at one x, and 4 for others. Infinity is its O. On the
-- curve, points at one x are equal or opposite.
abbrev pub sum_of : Point → Point → Point
sum_of Infinity q = q
sum_of (Finite a) Infinity = Finite a
sum_of (Finite a) (Finite b) =
    if nat_eq a.x b.x
    then (if nat_eq a.y b.y
    then (if nat_eq a.y 0
    then Infinity
    else on_line a.x a.y b.x (quotient (3 ⊗ (a.x ⊗ a.x)) (a.y ⊕ a.y)))
    else Infinity)
    else on_line a.x a.y b.x (quotient (b.y ⊖ a.y) (b.x ⊖ a.x))
