-- Multiples of points, by SEC 1's sums. That this is the sum of k times the point is a theorem of mathematics (sums are
-- associative) that isn't proved here.
use Rattle.std.specs.Prelude.{ℕ, zero, suc, ◌/◌, ◌%◌, nat_eq, if◌then◌else◌}
use Rattle.curve_points.specs.declared.point.Point.{Point}
use Rattle.curve_points.specs.declared.point.Point.TheVariants.{Infinity, Finite}
use Rattle.curve_points.specs.Points.{sum_of, generator_x, generator_y}

-- twice the total, and the point added to it if the bit is 1
abbrev pub next_multiple : Point → Point → ℕ → Point
next_multiple p total bit = if nat_eq bit 1 then sum_of (sum_of total total) p else sum_of total total

-- k times the point, for a k of so many bits: twice k / 2 times the point, and the point once more if k is odd
unfoldable pub multiple : ℕ → ℕ → Point → Point
multiple zero k p = Infinity
multiple (suc bits) k p = next_multiple p (multiple bits (k / 2) p) (k % 2)

-- the public key of a private one: that many times the generator (SEC 1, section 3.2.1)
abbrev pub public_point : ℕ → Point
public_point key = multiple 256 key (Finite (record { x = generator_x; y = generator_y }))
