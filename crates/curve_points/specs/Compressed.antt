-- Points in 33 bytes: SEC 1, section 2.3.3, with compression.
use Rattle.std.specs.Prelude.{ℕ, ◌+◌, ◌%◌, List, ◌∷◌, replicate}
use Rattle.std.specs.Int.{bytes_high_first}
use Rattle.curve_points.specs.declared.point.Point.{Point}
use Rattle.curve_points.specs.declared.point.Point.TheVariants.{Infinity, Finite}

-- 2, or 3 if y is odd, and then x. SEC 1 writes infinity as one byte 0: here 32 more follow. No private key but 0 has it
-- as its public key, which isn't proved here.
abbrev pub compressed : Point → List ℕ
compressed Infinity = replicate 33 0
compressed (Finite a) = (2 + a.y % 2) ∷ bytes_high_first 32 a.x
