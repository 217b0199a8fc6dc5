-- Points in Jacobian coordinates, and what the formulas of their sums give. This is our own: no public contract cites it.
use Rattle.std.specs.Prelude.{◌≡◌, ◌≢◌, ℕ, ◌*◌, ◌%◌, ◌<◌}
use Rattle.curve_field.specs.Field.{prime, ◌⊕◌, ◌⊖◌, ◌⊗◌}
use Rattle.curve_points.specs.declared.point.Point.{Point}
use Rattle.curve_points.specs.declared.point.Point.TheVariants.{Infinity, Finite}

-- (X, Y, Z) are coordinates of (x, y)
pub record IsScaled (X Y Z x y : ℕ) : Type 0 where
  pub x_below : x < prime
  pub y_below : y < prime
  pub z_below : Z < prime
  pub z_not_zero : Z ≢ 0
  pub x_is : X ≡ (x * ((Z * Z) % prime)) % prime
  pub y_is : Y ≡ (y * ((Z * ((Z * Z) % prime)) % prime)) % prime

abbrev pub IsJacobian : ℕ → ℕ → ℕ → Point → Type 0
IsJacobian X Y Z Infinity = Z ≡ 0
IsJacobian X Y Z (Finite a) = IsScaled X Y Z a.x a.y

-- ---- what the formulas give

abbrev pub twice : ℕ → ℕ
twice a = a ⊕ a

abbrev pub doubled_m : ℕ → ℕ
doubled_m X = twice (X ⊗ X) ⊕ (X ⊗ X)

abbrev pub doubled_s : ℕ → ℕ → ℕ
doubled_s X Y = twice (twice (X ⊗ (Y ⊗ Y)))

abbrev pub doubled_x : ℕ → ℕ → ℕ
doubled_x X Y = (doubled_m X ⊗ doubled_m X) ⊖ twice (doubled_s X Y)

abbrev pub doubled_y : ℕ → ℕ → ℕ
doubled_y X Y = (doubled_m X ⊗ (doubled_s X Y ⊖ doubled_x X Y)) ⊖ twice (twice (twice ((Y ⊗ Y) ⊗ (Y ⊗ Y))))

abbrev pub doubled_z : ℕ → ℕ → ℕ
doubled_z Y Z = twice (Y ⊗ Z)

abbrev pub added_h : ℕ → ℕ → ℕ → ℕ
added_h X Z x = (x ⊗ (Z ⊗ Z)) ⊖ X

abbrev pub added_r : ℕ → ℕ → ℕ → ℕ
added_r Y Z y = (y ⊗ ((Z ⊗ Z) ⊗ Z)) ⊖ Y

abbrev pub added_x : ℕ → ℕ → ℕ → ℕ
added_x X h r = ((r ⊗ r) ⊖ ((h ⊗ h) ⊗ h)) ⊖ twice (X ⊗ (h ⊗ h))

abbrev pub added_y : ℕ → ℕ → ℕ → ℕ → ℕ
added_y X Y h r = (r ⊗ ((X ⊗ (h ⊗ h)) ⊖ added_x X h r)) ⊖ (Y ⊗ ((h ⊗ h) ⊗ h))
