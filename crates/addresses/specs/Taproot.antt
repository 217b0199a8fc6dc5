-- Addresses of a key with no script: BIP-341, section "Constructing and spending Taproot outputs" (taproot_tweak_pubkey with an
-- empty h), and BIP-86.
use Rattle.std.specs.Prelude.{ℕ, List, Option, Some, None, codes, nat_lt, if◌then◌else◌}
use Rattle.std.specs.Int.{bytes_high_first}
use Rattle.std.specs.Int.Digits.{number_from_digits}
use Rattle.std.specs.Option.{option_and_then, option_map}
use Rattle.hashes.specs.Digests.{tagged_hash}
use Rattle.curve_field.specs.Order.{order}
use Rattle.curve_points.specs.declared.point.Point.{Point}
use Rattle.curve_points.specs.declared.point.Point.TheVariants.{Infinity, Finite}
use Rattle.curve_points.specs.Points.{sum_of}
use Rattle.curve_points.specs.Multiples.{public_point}
use Rattle.curve_points.specs.Lifted.{lift_x}
use Rattle.bech32.specs.Segwit.{address}

-- t: int(hash_TapTweak(pubkey))
abbrev pub tweak : List ℕ → ℕ
tweak internal = number_from_digits 256 (tagged_hash (codes "TapTweak") internal)

-- bytes(x(Q)). Infinity has no x.
abbrev pub x_only : Point → Option (List ℕ)
x_only Infinity = None
x_only (Finite a) = Some (bytes_high_first 32 a.x)

-- The bytes of Q = P + t G, where P is what the x of the internal key is lifted to. There are none if t isn't below n, no point has
-- that x, or Q is infinity.
unfoldable pub output_key : List ℕ → Option (List ℕ)
output_key internal =
    if nat_lt (tweak internal) order
    then option_and_then (λ p. x_only (sum_of (Finite p) (public_point (tweak internal)))) (lift_x (number_from_digits 256 internal))
    else None

-- P2TR: the output key as a witness program of version 1
abbrev pub p2tr : List ℕ → Option (List ℕ)
p2tr internal = option_map (λ output. address (codes "bc") 1 output) (output_key internal)
